-- Each fault of reading, exactly where it comes.
use Rattle.std.proofs.Common.{◌≡◌, ◌⊎◌, inl, inr, ℕ, ◌<◌, Bool, true, false, cond, eqb, List, [], ◌∷◌, Option, Some, None, Result, Ok, Err, refl, sym, ap, ◌∙◌}
use Rattle.std.proofs.lemmas.Bool.{eqb-true}
use Rattle.omci_types.specs.declared.Frame.{Frame}
use Rattle.message_spec.specs.declared.Action.{Action}
use Rattle.message_spec.specs.declared.Action.TheVariants.{Create, Delete, Set, Get, Alarms, AlarmsNext, Upload, UploadNext, Reset, Start, Section, End, Activate, Commit, Reboot}
use Rattle.message_spec.specs.declared.MessageType.{MessageType}
use Rattle.message_spec.specs.declared.MessageType.TheVariants as types
use Rattle.message_spec.specs.declared.Kind.{Kind}
use Rattle.message_spec.specs.declared.ContentsFault.{ContentsFault}
use Rattle.message_spec.specs.declared.ContentsFault.TheVariants.{UnknownType, Bits}
use Rattle.message_spec.specs.Types.{row, type_number, type_numbered, first_numbered, all_types, type_bits, flag_bits, kind_flagged, or_bits, kind_typed, kind_of, type_byte}
use Rattle.message_spec.specs.Reading.{message_typed, message_of}
use Rattle.message_laws.specs.Faults.{IsUnknownType, HasWrongBits}
use Rattle.message_laws.proofs.Rows.{kind_found, byte_of_kind}

-- a type is found by its number
command_numbered : (a : Action) → type_numbered (row a).number ≡ Some (types.Command a)
unfolding type_numbered
command_numbered Create = refl
command_numbered Delete = refl
command_numbered Set = refl
command_numbered Get = refl
command_numbered Alarms = refl
command_numbered AlarmsNext = refl
command_numbered Upload = refl
command_numbered UploadNext = refl
command_numbered Reset = refl
command_numbered Start = refl
command_numbered Section = refl
command_numbered End = refl
command_numbered Activate = refl
command_numbered Commit = refl
command_numbered Reboot = refl

numbered : (t : MessageType) → type_numbered (type_number t) ≡ Some t
unfolding type_numbered
numbered (types.Command a) = command_numbered a
numbered types.Alarm = refl
numbered types.Change = refl

some_is : {A : Type 0} (x y : A) → Some x ≡ Some y → x ≡ y
some_is x y h = cc

-- the type that is found has the number
tested : (test : Bool) (first t : MessageType) (others : Option MessageType) (number : ℕ) → eqb number (type_number first) ≡ test → cond test (Some first) others ≡ Some t → (first ≡ t) × (number ≡ type_number t) ⊎ (others ≡ Some t)
tested true first t others number is h = let same : first ≡ t = some_is first t h in inl (same, eqb-true number (type_number first) is ∙ ap type_number same)
tested false first t others number is h = inr h

first_has : (all : List MessageType) (number : ℕ) (t : MessageType) → first_numbered all number ≡ Some t → number ≡ type_number t
first_has [] number t h = absurd cc
first_has (first ∷ others) number t h =
    elim (tested (eqb number (type_number first)) first t (first_numbered others number) number refl h) [
      | inl found ↦ found.1
      | inr later ↦ first_has others number t later
    ]

found_has : (number : ℕ) (t : MessageType) → type_numbered number ≡ Some t → number ≡ type_number t
unfolding type_numbered
found_has number t h = first_has all_types number t h

-- ---- no type has the number

none_has : (number : ℕ) → type_numbered number ≡ None → (t : MessageType) → type_number t ≡ number → ⊥
none_has number none t is =
    let some : type_numbered number ≡ Some t = ap type_numbered (sym is) ∙ numbered t in
    cc

none_found : (number : ℕ) (found : Option MessageType) → type_numbered number ≡ found → ((t : MessageType) → type_number t ≡ number → ⊥) → type_numbered number ≡ None
none_found number (Some t) is unknown = absurd (unknown t (sym (found_has number t is)))
none_found number None is unknown = is

kind_unknown : (byte : ℕ) → type_numbered (type_bits byte) ≡ None → kind_of byte ≡ Err (UnknownType (type_bits byte))
unfolding kind_of
kind_unknown byte none = ap (kind_typed byte) none

flagged_known : (byte number : ℕ) (kind : Option Kind) → or_bits byte kind ≡ Err (UnknownType number) → ⊥
flagged_known byte number (Some kind) h = cc
flagged_known byte number None h = cc

typed_unknown : (byte number : ℕ) (found : Option MessageType) → kind_typed byte found ≡ Err (UnknownType number) → (number ≡ type_bits byte) × (found ≡ None)
typed_unknown byte number (Some t) h = absurd (flagged_known byte number (kind_flagged t (flag_bits byte)) h)
typed_unknown byte number None h = (cc, refl)

kind_is_unknown : (byte number : ℕ) → kind_of byte ≡ Err (UnknownType number) → (number ≡ type_bits byte) × (type_numbered (type_bits byte) ≡ None)
unfolding kind_of
kind_is_unknown byte number h = typed_unknown byte number (type_numbered (type_bits byte)) h

-- ---- wrong bits

flagged_bits : (byte given : ℕ) (kind : Option Kind) → or_bits byte kind ≡ Err (Bits given) → given ≡ byte
flagged_bits byte given (Some kind) h = absurd cc
flagged_bits byte given None h = cc

typed_bits : (byte given : ℕ) (found : Option MessageType) → kind_typed byte found ≡ Err (Bits given) → (given ≡ byte) × (t : MessageType) × (found ≡ Some t)
typed_bits byte given (Some t) h = (flagged_bits byte given (kind_flagged t (flag_bits byte)) h, t, refl)
typed_bits byte given None h = absurd cc

kind_has_bits : (byte given : ℕ) → kind_of byte ≡ Err (Bits given) → (given ≡ byte) × (t : MessageType) × (type_numbered (type_bits byte) ≡ Some t)
unfolding kind_of
kind_has_bits byte given h = typed_bits byte given (type_numbered (type_bits byte)) h

wrong_bits : (byte : ℕ) (read : Result Kind ContentsFault) → byte < 256 → kind_of byte ≡ read → (t : MessageType) → type_number t ≡ type_bits byte → ((kind : Kind) → type_byte kind ≡ byte → ⊥) → kind_of byte ≡ Err (Bits byte)
wrong_bits byte (Ok kind) lt is t known wrong = absurd (wrong kind (sym (byte_of_kind byte kind lt is)))
wrong_bits byte (Err (UnknownType number)) lt is t known wrong = absurd (none_has (type_bits byte) (kind_is_unknown byte number is).1 t known)
wrong_bits byte (Err (Bits given)) lt is t known wrong =
    let same : given ≡ byte = (kind_has_bits byte given is).0 in
    is ∙ ap (λ (b : ℕ). Err (Bits b)) same

-- ---- of a frame

typed_fault : (f : Frame) (read : Result Kind ContentsFault) (fault : ContentsFault) → message_typed f read ≡ Err fault → read ≡ Err fault
typed_fault f (Ok kind) fault h = absurd cc
typed_fault f (Err other) fault h = let same : other ≡ fault = cc in ap (λ (e : ContentsFault). Err e) same

fault_of_kind : (f : Frame) (fault : ContentsFault) → message_of f ≡ Err fault → kind_of f.kind ≡ Err fault
unfolding message_of
fault_of_kind f fault h = typed_fault f (kind_of f.kind) fault h

fault_of_frame : (f : Frame) (fault : ContentsFault) → kind_of f.kind ≡ Err fault → message_of f ≡ Err fault
unfolding message_of
fault_of_frame f fault h = ap (message_typed f) h

pub unknown_is : (f : Frame) (number : ℕ) → message_of f ≡ Err (UnknownType number) → IsUnknownType f number
unknown_is f number h =
    let told = kind_is_unknown f.kind number (fault_of_kind f (UnknownType number) h) in
    record { is = told.0; unknown = λ t is. none_has (type_bits f.kind) told.1 t (is ∙ told.0) }

pub is_unknown : (f : Frame) (number : ℕ) → IsUnknownType f number → message_of f ≡ Err (UnknownType number)
is_unknown f number u =
    let none = none_found (type_bits f.kind) (type_numbered (type_bits f.kind)) refl (λ t is. u.unknown t (is ∙ sym u.is)) in
    fault_of_frame f (UnknownType number) (kind_unknown f.kind none ∙ ap (λ (n : ℕ). Err (UnknownType n)) (sym u.is))

other_kind : (byte given : ℕ) (kind : Kind) → kind_of byte ≡ Err (Bits given) → type_byte kind ≡ byte → ⊥
other_kind byte given kind wrong is =
    let found : kind_of byte ≡ Ok kind = ap kind_of (sym is) ∙ kind_found kind in
    cc

pub bits_are : (f : Frame) (byte : ℕ) → message_of f ≡ Err (Bits byte) → HasWrongBits f byte
bits_are f byte h =
    let kind = fault_of_kind f (Bits byte) h in
    let told = kind_has_bits f.kind byte kind in
    record {
      is = told.0;
      known = (told.1, sym (found_has (type_bits f.kind) told.1 told.2) ∙ ap type_bits (sym told.0));
      wrong = λ k is. other_kind f.kind byte k kind (is ∙ told.0);
    }

pub wrong_is : (f : Frame) (byte : ℕ) → f.kind < 256 → HasWrongBits f byte → message_of f ≡ Err (Bits byte)
wrong_is f byte lt w =
    let known = w.known in
    fault_of_frame f (Bits byte)
    (wrong_bits f.kind (kind_of f.kind) lt refl known.0 (known.1 ∙ ap type_bits w.is) (λ k is. w.wrong k (is ∙ sym w.is))
    ∙ ap (λ (b : ℕ). Err (Bits b)) (sym w.is))
