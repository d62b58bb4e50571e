use Rattle.std.proofs.Common.{refl}
use Rattle.window_spec.specs.Incoming.{fit, after_section, answer}
use Rattle.window_spec.specs.Outgoing.{section_count, section_at, after_window}
use Rattle.window_laws.proofs.worked_rows.Goals as goal

pub returns-clause-sections : goal.returns-clause-sections
unfolding section_count section_at after_window
returns-clause-sections c = refl

pub returns-clause-first_window : goal.returns-clause-first_window
unfolding section_count section_at after_window
returns-clause-first_window c = refl

pub returns-clause-second_window : goal.returns-clause-second_window
unfolding section_count section_at after_window
returns-clause-second_window c = refl

pub returns-clause-last_window : goal.returns-clause-last_window
unfolding section_count section_at after_window
returns-clause-last_window c = refl

pub returns-clause-one_tci : goal.returns-clause-one_tci
unfolding fit after_section answer
returns-clause-one_tci c = refl

pub returns-clause-held : goal.returns-clause-held
unfolding fit after_section answer
returns-clause-held c = refl

pub returns-clause-next_tcis : goal.returns-clause-next_tcis
unfolding fit after_section answer
returns-clause-next_tcis c = refl

pub returns-clause-other_tci : goal.returns-clause-other_tci
unfolding fit after_section answer
returns-clause-other_tci c = refl

pub returns-clause-missing : goal.returns-clause-missing
unfolding fit after_section answer
returns-clause-missing c = refl

pub returns-clause-twice : goal.returns-clause-twice
unfolding fit after_section answer
returns-clause-twice c = refl

pub returns-clause-no_first : goal.returns-clause-no_first
unfolding fit after_section answer
returns-clause-no_first c = refl

pub returns-clause-anew : goal.returns-clause-anew
unfolding fit after_section answer
returns-clause-anew c = refl

pub returns-clause-longest : goal.returns-clause-longest
unfolding fit after_section answer
returns-clause-longest c = refl
