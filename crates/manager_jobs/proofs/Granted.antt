-- A response that is read and grants windows grants at least one section.
use Rattle.std.proofs.Common.{◌≡◌, ℕ, subst, arith, List, Result, Ok, Err}
use Rattle.omci_types.specs.declared.EntityId.{EntityId}
use Rattle.omci_types.specs.declared.Frame.{Frame}
use Rattle.message_spec.specs.declared.Action.{Action}
use Rattle.message_spec.specs.declared.Action.TheVariants as actions
use Rattle.message_spec.specs.declared.Kind.{Kind}
use Rattle.message_spec.specs.declared.Kind.TheVariants.{Request, UnansweredSection, Response}
use Rattle.message_spec.specs.declared.Kind.TheVariants.{Alarm, Change}
use Rattle.message_spec.specs.declared.ContentsFault.{ContentsFault}
use Rattle.message_spec.specs.declared.Message.{Message}
use Rattle.message_spec.specs.declared.Message.TheVariants.{Answered}
use Rattle.message_spec.specs.declared.Response as responses
use Rattle.message_spec.specs.Fields.{values_at}
use Rattle.message_spec.specs.Types.{kind_of, layout}
use Rattle.message_spec.specs.Responses.{response_with}
use Rattle.message_spec.specs.Reading.{message_of, message_with, message_typed}
use Rattle.manager_jobs.specs.Stages.{GrantsSome}

grants : (a : Action) (contents : List ℕ)
    → GrantsSome (response_with a (values_at (layout (Response a)) contents))
grants actions.Create contents = tt
grants actions.Delete contents = tt
grants actions.Set contents = tt
grants actions.Get contents = tt
grants actions.Alarms contents = tt
grants actions.AlarmsNext contents = tt
grants actions.Upload contents = tt
grants actions.UploadNext contents = tt
grants actions.Reset contents = tt
grants actions.Start contents = omega arith
grants actions.Section contents = tt
grants actions.End contents = tt
grants actions.Activate contents = tt
grants actions.Commit contents = tt
grants actions.Reboot contents = tt

made : (kind : Kind) (tci : ℕ) (one : EntityId) (contents : List ℕ) (t : ℕ) (e : EntityId)
    (r : responses.Response)
    → message_with kind tci one (values_at (layout kind) contents) ≡ Answered t e r
    → GrantsSome r
made (Request a) tci one contents t e r is = absurd (cc)
made UnansweredSection tci one contents t e r is = absurd (cc)
made (Response a) tci one contents t e r is =
    let same : response_with a (values_at (layout (Response a)) contents) ≡ r = cc in
    subst (λ r. GrantsSome r) same (grants a contents)
made Alarm tci one contents t e r is = absurd (cc)
made Change tci one contents t e r is = absurd (cc)

ok_same : (m n : Message) → ◌≡◌ {A = Result Message ContentsFault} (Ok m) (Ok n) → m ≡ n
ok_same m n e = cc

typed : (f : Frame) (kind : Result Kind ContentsFault) (t : ℕ) (e : EntityId)
    (r : responses.Response)
    → message_typed f kind ≡ Ok (Answered t e r)
    → GrantsSome r
typed f (Ok kind) t e r is =
    made kind f.tci f.entity f.contents t e r (ok_same _ _ is)
typed f (Err fault) t e r is = absurd (cc)

pub granted : (f : Frame) (t : ℕ) (e : EntityId) (r : responses.Response)
    → message_of f ≡ Ok (Answered t e r)
    → GrantsSome r
unfolding message_of
granted f t e r is = typed f (kind_of f.kind) t e r is
