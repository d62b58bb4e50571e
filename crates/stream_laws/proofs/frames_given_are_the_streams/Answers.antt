use Rattle.stream_laws.proofs.Baseline.{course_of, stream_if_open, stream_if_faulty}
use Rattle.stream_laws.proofs.frames_given_are_the_streams.Goals as goal

pub returns-clause-course : goal.returns-clause-course
returns-clause-course c = course_of

pub returns-clause-open : goal.returns-clause-open
returns-clause-open c = stream_if_open

pub returns-clause-faulty : goal.returns-clause-faulty
returns-clause-faulty c = stream_if_faulty
