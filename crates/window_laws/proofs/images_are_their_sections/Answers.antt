use Rattle.window_spec.specs.Outgoing.{section_count}
use Rattle.window_laws.proofs.Sections.{joined, padding_is_less, section_length, count_length}
use Rattle.window_laws.proofs.images_are_their_sections.Goals as goal

pub returns-clause-bytes : goal.returns-clause-bytes
returns-clause-bytes c image = joined image

pub returns-clause-fewer : goal.returns-clause-fewer
returns-clause-fewer c image = padding_is_less image

pub returns-clause-long : goal.returns-clause-long
returns-clause-long c place image = section_length place image

pub returns-clause-count : goal.returns-clause-count
returns-clause-count c image = count_length (section_count image) 0 image
