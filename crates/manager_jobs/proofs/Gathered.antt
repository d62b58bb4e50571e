-- How many entities a piece adds, and that what a gathering comes to doesn't hang on the job.
use Rattle.std.proofs.Common.{◌≡◌, ℕ, ◌+◌, ◌≤◌, refl, sym, ap, ◌∙◌, arith}
use Rattle.std.proofs.Common.{Bool, true, false, nat_le, is_some, if◌then◌else◌}
use Rattle.std.proofs.Common.{List, [], ◌∷◌, length, Option, Some, None}
use Rattle.std.specs.declared.cmp.Ordering.{Ordering}
use Rattle.std.specs.declared.cmp.Ordering.TheVariants.{Less, Equal, Greater}
use Rattle.std.specs.Ordering.{match_ordering}
use Rattle.std.specs.BTreeMap.{insert_entry}
use Rattle.omci_types.specs.declared.EntityId.{EntityId}
use Rattle.omci_types.specs.declared.Frame.{Frame}
use Rattle.message_spec.specs.declared.Response.{Response}
use Rattle.message_spec.specs.declared.Response.TheVariants as response
use Rattle.mib_spec.specs.Database.{entity_cmp}
use Rattle.mib_spec.specs.Requests.{is_class}
use Rattle.upload_spec.specs.declared.PieceFault.{PieceFault}
use Rattle.upload_spec.specs.declared.PieceFault.TheVariants as fault
use Rattle.upload_spec.specs.Pieces.{Copy, entity_in}
use Rattle.upload_spec.specs.Copies.{with_copied, with_overlay, with_piece}
use Rattle.upload_spec.specs.Copies.{copied_counter, piece_fault, piece_values}
use Rattle.manager_spec.specs.Manager.{Stage, Asking, Gathering, Manager}
use Rattle.manager_spec.specs.Resync.{with_job, done_if_counted, gather_unless_all}
use Rattle.manager_spec.specs.Resync.{gather_on, piece_by, piece_came}
use Rattle.manager_spec.specs.Steps.{upload_by, piece_by_reply, job_by}

-- an entry more, or another value of one that is there
pub length_inserted : {V : Type 0} (es : List (EntityId × V)) (one : EntityId) (values : V)
    → length (insert_entry entity_cmp es one values) ≤ length es + 1
length_inserted [] one values = omega arith
length_inserted {V} (e ∷ es) one values = by (entity_cmp one e.0) (length_inserted es one values)
  where
    rest : List (EntityId × V)
    rest = insert_entry entity_cmp es one values

    by : (order : Ordering) → length rest ≤ length es + 1
        → length (match_ordering order ((one, values) ∷ e ∷ es) ((e.0, values) ∷ es) (e ∷ rest))
        ≤ length {A = EntityId × V} (e ∷ es) + 1
    by Less h = omega arith
    by Equal h = omega arith
    by Greater h = omega (arith, h)

pub length_joined : (piece : List ℕ) (copy : Copy)
    → length (with_piece piece copy) ≤ length copy + 1
unfolding with_piece with_copied
length_joined piece copy = by (is_class (entity_in piece).class)
  where
    joined : Copy
    joined = with_overlay (entity_in piece) (piece_values piece) copy

    by : (b : Bool) → length (if b then joined else copy) ≤ length copy + 1
    by true = length_inserted copy (entity_in piece) _
    by false = omega arith

-- the job that runs is replaced
gathered_anyhow : (job : Option Stage) (expected next : ℕ) (copy : Copy) (m : Manager)
    → gather_on expected next copy (with_job job m) ≡ gather_on expected next copy m
unfolding gather_on
gathered_anyhow job expected next copy m =
    by (nat_le expected next) (is_some (copied_counter copy))
  where
    counted : (b : Bool) → done_if_counted b copy (with_job job m) ≡ done_if_counted b copy m
    counted true = refl
    counted false = refl

    by : (all b : Bool)
        → gather_unless_all all expected next copy (with_job job m)
        ≡ gather_unless_all all expected next copy m
    by true b = counted (is_some (copied_counter copy))
    by false b = refl

piece_anyhow : (job : Option Stage) (expected next : ℕ) (piece : List ℕ) (copy : Copy) (m : Manager)
    → piece_came expected next piece copy (with_job job m) ≡ piece_came expected next piece copy m
piece_anyhow job expected next piece copy m = by (piece_fault piece copy)
  where
    by : (o : Option PieceFault)
        → piece_by o expected next piece copy (with_job job m)
        ≡ piece_by o expected next piece copy m
    by None = gathered_anyhow job expected (next + 1) (with_piece piece copy) m
    by (Some fault.Empty) = refl
    by (Some (fault.ClassUnknown class)) = gathered_anyhow job expected (next + 1) copy m
    by (Some (fault.Truncated one)) = refl
    by (Some (fault.Repeated one attribute)) = refl

-- the reply that says how many pieces there are, where the job was taken out before
pub upload_came : (m n : Manager) (reply : Option Response) (f : Frame) (count : ℕ)
    → m.job ≡ Some Asking
    → reply ≡ Some (response.Upload count)
    → n ≡ gather_on count 0 [] (with_job None m)
    → n ≡ job_by m.job reply f m
upload_came m n reply f count job is e =
    e ∙ gathered_anyhow None count 0 [] m
    ∙ sym (ap (λ o. job_by o reply f m) job ∙ ap (λ o. upload_by o f m) is)

-- the reply with a piece, where the job was taken out before
pub next_came : (m n : Manager) (reply : Option Response) (f : Frame)
    (expected next : ℕ) (copy : Copy) (piece : List ℕ)
    → m.job ≡ Some (Gathering expected next copy)
    → reply ≡ Some (response.UploadNext piece)
    → n ≡ piece_came expected next piece copy (with_job None m)
    → n ≡ job_by m.job reply f m
next_came m n reply f expected next copy piece job is e =
    e ∙ piece_anyhow None expected next piece copy m
    ∙ sym
    (ap (λ o. job_by o reply f m) job
    ∙ ap (λ o. piece_by_reply o expected next copy f m) is)
