-- A message that is written as an extended frame is read again.
use Rattle.std.proofs.Common.{◌≡◌, ℕ, true, List, Option, Result, Ok, refl, ap, ◌∙◌}
use Rattle.message_spec.specs.declared.Action.{Action}
use Rattle.message_spec.specs.declared.Action.TheVariants.{Create, Delete, Set, Get, Alarms, AlarmsNext, Upload, UploadNext, Reset, Start, Section, End, Activate, Commit, Reboot}
use Rattle.message_spec.specs.declared.Kind.{Kind}
use Rattle.message_spec.specs.declared.Kind.TheVariants as kinds
use Rattle.message_spec.specs.declared.ContentsFault.{ContentsFault}
use Rattle.message_laws.proofs.Rows.{kind_found}
use Rattle.extended_spec.specs.Layouts.{LongValue, long_layout}
use Rattle.extended_spec.specs.Messages.{Parts, IsParts, long_plain, parts_unless, parts_typed, parts_of}
use Rattle.extended_laws.proofs.Contents.{ends_well, values_back, need_there}

request_ends : (a : Action) → ends_well (long_layout (kinds.Request a)) ≡ true
request_ends Create = refl
request_ends Delete = refl
request_ends Set = refl
request_ends Get = refl
request_ends Alarms = refl
request_ends AlarmsNext = refl
request_ends Upload = refl
request_ends UploadNext = refl
request_ends Reset = refl
request_ends Start = refl
request_ends Section = refl
request_ends End = refl
request_ends Activate = refl
request_ends Commit = refl
request_ends Reboot = refl

response_ends : (a : Action) → ends_well (long_layout (kinds.Response a)) ≡ true
response_ends Create = refl
response_ends Delete = refl
response_ends Set = refl
response_ends Get = refl
response_ends Alarms = refl
response_ends AlarmsNext = refl
response_ends Upload = refl
response_ends UploadNext = refl
response_ends Reset = refl
response_ends Start = refl
response_ends Section = refl
response_ends End = refl
response_ends Activate = refl
response_ends Commit = refl
response_ends Reboot = refl

-- what takes the rest, and a list, stand last in each kind's contents
kind_ends : (kind : Kind) → ends_well (long_layout kind) ≡ true
kind_ends (kinds.Request a) = request_ends a
kind_ends kinds.UnansweredSection = refl
kind_ends (kinds.Response a) = response_ends a
kind_ends kinds.Alarm = refl
kind_ends kinds.Change = refl

pub written_is_read : (m : Parts) → IsParts m → parts_of (long_plain m) ≡ Ok m
unfolding parts_of long_plain
written_is_read m is =
    let well = kind_ends m.kind in
    ap (λ (r : Result Kind ContentsFault). parts_typed r (long_plain m)) (kind_found m.kind)
    ∙ ap (λ (need : Option ℕ). parts_unless need m.kind (long_plain m)) (need_there (long_layout m.kind) m.values well is.values)
    ∙ ap (λ (values : List LongValue). Ok (record { tci = m.tci; kind = m.kind; entity = m.entity; values = values })) (values_back (long_layout m.kind) m.values well is.values)
