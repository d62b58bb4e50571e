-- The answer to a check of a unit whose database agrees with the copy.
use Rattle.std.proofs.Common.{◌≡◌, ℕ, ◌==◌, true, false, cond, not, List, [], ◌∷◌, length, take}
use Rattle.std.proofs.Common.{drop, replicate, slice_index, is_some, Option, Some, None, refl, sym}
use Rattle.std.proofs.Common.{ap, subst, ◌∙◌, arith}
use Rattle.std.proofs.lemmas.Bool.{false≢true}
use Rattle.std.proofs.lemmas.Bool.Decides.{nat_tests}
use Rattle.std.specs.Option.{option_map_or}
use Rattle.omci_types.specs.declared.EntityId.{EntityId}
use Rattle.omci_types.specs.declared.Frame.{Frame}
use Rattle.class_spec.specs.declared.TheConstants.{ONU_DATA, GET_ROOM}
use Rattle.class_spec.specs.Classes.{Row, class_row, class_table}
use Rattle.class_spec.specs.Masks.{has, width_of, unknown_mask, known_mask}
use Rattle.frame_spec.specs.Baseline.{spelling, packet_frame}
use Rattle.frame_spec.specs.Widths.{filled}
use Rattle.message_spec.specs.declared.Response.{Response}
use Rattle.message_spec.specs.declared.Response.TheVariants as response
use Rattle.message_spec.specs.declared.Action.TheVariants as action
use Rattle.message_spec.specs.declared.Kind.TheVariants as kinds
use Rattle.message_spec.specs.Fields.{put, padding}
use Rattle.message_spec.specs.Types.{type_numbered, kind_of}
use Rattle.message_spec.specs.Reading.{plain}
use Rattle.mib_spec.specs.Database.{Database, Managed, Values, managed_of, is_held, value_at}
use Rattle.mib_spec.specs.Database.{byte_of, values_of, counter}
use Rattle.mib_spec.specs.Requests.{first_code, named_values, get_code, is_answered, get_outcome_in}
use Rattle.mib_spec.specs.Requests.{get_outcome, GetOutcome}
use Rattle.upload_spec.specs.Pieces.{Copy}
use Rattle.upload_spec.specs.Copies.{copy_counter}
use Rattle.upload_laws.specs.Shaped.{IsShaped}
use Rattle.lane_spec.specs.Command.{sync_entity, sync_request}
use Rattle.manager_spec.specs.declared.Report.TheVariants as report
use Rattle.manager_spec.specs.Manager.{Manager, with_report}
use Rattle.manager_spec.specs.Steps.{response_in, response_of, code_of, first_value}
use Rattle.manager_spec.specs.Steps.{expected_counter, compared, counters_compared, checked_if}
use Rattle.manager_spec.specs.Steps.{checked_by}
use Rattle.unit_spec.specs.Onu.{Onu, response_frame, code, answer}
use Rattle.resync_laws.specs.Agreeing.{IsCopied}
use Rattle.resync_laws.proofs.Reading.{IsReadOf, read_of}
use Rattle.resync_laws.proofs.Databases.{onu_data_row, onu_data_is, same_row}
use Rattle.resync_laws.proofs.Following.{there, values_held, counters_agree}
use Rattle.step_laws.specs.InStep.{ChecksEqual}
use Rattle.step_laws.proofs.Reading.{message_read}

-- ---- the one value of ONU data

record IsByte (values : Values) (byte : ℕ) : Type 0 where
  named : named_values 0x8000 values ≡ byte ∷ []
  counted : byte_of (value_at 1 values) ≡ byte

one_byte : (number : ℕ) (bytes : List ℕ) → number ≡ 1 → length bytes ≡ 1
    → (byte : ℕ) × IsByte ((number, bytes) ∷ []) byte
one_byte number [] n l = absurd (omega (arith, l))
one_byte number (b ∷ c ∷ bytes) n l = absurd (omega (arith, l))
one_byte number (b ∷ []) n l =
    let test : (number == 1) ≡ true = grind (arith, nat_tests) in (
      b,
      record {
        named = ap (λ k. cond (has 0x8000 k) (b ∷ []) []) n;
        counted = ap (λ x. byte_of (cond x (Some (b ∷ [])) None)) test;
      },
    )

data_byte : (values : Values) → IsShaped onu_data_row.attributes values → (byte : ℕ)
    × IsByte values byte
data_byte [] s = absurd s
data_byte (v ∷ w ∷ values) s = absurd s.2
data_byte (v ∷ []) s = one_byte v.0 v.1 s.0 s.1

-- ---- the unit's answer

get_zero : (database : Database) → is_held ONU_DATA database ≡ true
    → get_code GET_ROOM ONU_DATA 0x8000 database ≡ 0
unfolding get_code class_row class_table width_of unknown_mask known_mask
get_zero database h = ap (λ b. first_code ((false, 4) ∷ (not b, 5) ∷ (false, 3) ∷ (false, 9) ∷ []))
    h

-- the first byte of what is got
record Got (o : GetOutcome) (byte : ℕ) : Type 0 where
  code : o.code ≡ 0
  values : o.values ≡ byte ∷ replicate 24 0

got_byte : (database : Database) (values : Values) (byte : ℕ) → is_held ONU_DATA database ≡ true
    → values_of ONU_DATA database ≡ values → IsByte values byte
    → Got (get_outcome ONU_DATA 0x8000 database) byte
unfolding get_outcome_in
got_byte database values byte h e k = record {
  code = get_zero database h;
  values =
      ap (λ c. filled GET_ROOM (cond (is_answered c)
      (named_values 0x8000 (values_of ONU_DATA database)) [])) (get_zero database h)
      ∙ ap (λ v. filled GET_ROOM (named_values 0x8000 v)) e
      ∙ ap (filled GET_ROOM) k.named;
}

-- ---- what the manager reads

record Reads (g : Frame) (byte : ℕ) : Type 0 where
  response : Response
  is : response_of g ≡ Some response
  code : code_of response ≡ 0
  first : first_value response ≡ byte

get_read : (f : Frame) (mask byte unsupported : ℕ) (g : Frame)
    → packet_frame (spelling (response_frame f
    (response.Get (code 0) mask (byte ∷ replicate 24 0) unsupported 0))) ≡ Some g
    → Reads g byte
unfolding response_of plain kind_of type_numbered put padding
get_read f mask byte unsupported g e =
    let m : Frame = response_frame f (response.Get (code 0) mask
    (byte ∷ replicate 24 0) unsupported 0) in
    let r : IsReadOf m g = read_of m g e in
    record {
      response = _;
      is = ap response_in (message_read m g r (kinds.Response action.Get) refl);
      code = ap (λ (c : List ℕ). slice_index c 0) (r.contents refl);
      first = ap (λ (c : List ℕ). slice_index (take 25 (drop 3 c)) 0) (r.contents refl);
    }

answer_read : (f : Frame) (u : Onu) (byte : ℕ) (g : Frame) → f.entity ≡ sync_entity
    → Got (get_outcome ONU_DATA 0x8000 u.database) byte
    → packet_frame (spelling (answer false f sync_request u).reply) ≡ Some g → Reads g byte
unfolding answer
answer_read f u byte g entity k e =
    let o : GetOutcome = get_outcome f.entity 0x8000 u.database in
    let same : o ≡ get_outcome ONU_DATA 0x8000 u.database =
    ap (λ (one : EntityId). get_outcome one 0x8000 u.database) entity in
    let zero : o.code ≡ 0 = ap (λ (x : GetOutcome). x.code) same ∙ k.code in
    let values : o.values ≡ byte ∷ replicate 24 0 =
    ap (λ (x : GetOutcome). x.values) same ∙ k.values in
    get_read f o.mask byte o.unsupported g
    (ap (λ v. packet_frame (spelling (response_frame f
    (response.Get (code 0) o.mask v o.unsupported 0)))) (sym values)
    ∙ ap (λ n. packet_frame (spelling (response_frame f
    (response.Get (code n) o.mask o.values o.unsupported 0)))) (sym zero)
    ∙ e)

-- ---- the counters

same_counters : (given : ℕ) (x : Manager) → given ≡ expected_counter x
    → counters_compared given x ≡ with_report (report.Checked given given) x
same_counters given x e =
    let test : (given == expected_counter x) ≡ true = grind (arith, nat_tests) in
    ap (λ b. compared b (with_report (report.Checked given (expected_counter x)) x)) test
    ∙ ap (λ n. with_report (report.Checked given n) x) (sym e)

read_equal : (g : Frame) (byte : ℕ) (x : Manager) → Reads g byte → byte ≡ expected_counter x
    → checked_by (response_of g) g x ≡ with_report (report.Checked byte byte) x
read_equal g byte x k e =
    ap (λ o. checked_by o g x) k.is
    ∙ ap (λ n. checked_if (n == 0) k.response g x) k.code
    ∙ ap (λ n. counters_compared n x) k.first
    ∙ same_counters byte x e

pub checks_equal : (f g : Frame) (m : Manager) (u : Onu) (copy : Copy) → IsCopied u.database copy
    → m.copy ≡ Some copy → f.entity ≡ sync_entity
    → packet_frame (spelling (answer false f sync_request u).reply) ≡ Some g → ChecksEqual m u g
unfolding counter
checks_equal f g m u copy h has entity e = λ x same.
    let held = some_held (managed_of ONU_DATA u.database) h.counted in
    let k = there ONU_DATA held.0 u.database copy h held.1 in
    let row = same_row ONU_DATA.class k.row onu_data_row k.is onu_data_is in
    let b = data_byte k.managed.values
    (subst (λ (r : Row). IsShaped r.attributes k.managed.values) row k.shaped) in
    let values = values_held ONU_DATA k.managed u.database k.held in
    let read = answer_read f u b.0 g entity
    (got_byte u.database k.managed.values b.0 h.counted values b.1) e in
    let is : counter u.database ≡ b.0 =
    ap (λ (v : Values). byte_of (value_at 1 v)) values ∙ b.1.counted in
    let expected : expected_counter x ≡ b.0 =
    ap (λ o. option_map_or copy_counter o 0) (same ∙ has) ∙ sym (counters_agree u.database copy h)
    ∙ is in
    read_equal g b.0 x read (sym expected) ∙ ap (λ n. with_report (report.Checked n n) x) (sym is)
  where
    some_held : (o : Option Managed) → is_some o ≡ true → (managed : Managed) × (o ≡ Some managed)
    some_held None z = absurd (false≢true z)
    some_held (Some managed) z = (managed, refl)
