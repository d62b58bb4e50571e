-- The counts of faults over the calls of a turn.
use Rattle.std.proofs.Common.{◌≡◌, ℕ, ◌+◌, ◌≤◌, refl, sym, ◌∙◌, subst, Result, Ok, Err, IfOk, arith}
use Rattle.omci_core.specs.Causes.{Rose}
use Rattle.onu_agent.specs.declared.agent.StartRefusal.{StartRefusal}
use Rattle.onu_agent.specs.declared.agent.StartRefusal.TheVariants as refused
use Rattle.unit_turns.specs.Ending.{CausedBy, TurnCausedBy, StartCause, StartCausedBy}
use Rattle.unit_turns.specs.Ending.{EndsBare, refusal_status}
use Rattle.unit_turns.specs.declared.ending.UnitStatus.{UnitStatus}
use Rattle.unit_turns.specs.declared.ending.UnitStatus.TheVariants.{Done, DiskFault, NoUnit}
use Rattle.unit_turns.specs.declared.ending.UnitStatus.TheVariants.{LinkFault, WriteFault, NoMemory}
use Rattle.unit_turns.specs.declared.ending.UnitEnd as ending
use Rattle.unit_turns.specs.declared.running.Running as running

never_rose : Rose 0 0 → ⊥
never_rose rose = omega (arith, rose)

start_cause : (status : UnitStatus) (a b : ℕ) → StartCause status a b → CausedBy status 0 0 a b
start_cause Done a b c = absurd c
start_cause DiskFault a b c = (refl, c)
start_cause NoUnit a b c = (refl, c)
start_cause LinkFault a b c = absurd c
start_cause WriteFault a b c = (refl, c)
start_cause NoMemory a b c = (refl, c)

-- a start calls no link
pub start_caused : {D : Type 0} (result : Result (running.Running D) (ending.UnitEnd D)) (a b : ℕ)
    → StartCausedBy result a b → TurnCausedBy result 0 0 a b
start_caused (Ok unit) a b c = (refl, c)
start_caused (Err end) a b c = start_cause end.status a b c

-- what was caused without a link's call was caused beside a link that stays
sink_cause : (status : UnitStatus) (l m a b : ℕ) → m ≡ l → CausedBy status 0 0 a b
    → CausedBy status l m a b
sink_cause Done l m a b same c = (same, c.1)
sink_cause DiskFault l m a b same c = (same, c.1)
sink_cause NoUnit l m a b same c = (same, c.1)
sink_cause LinkFault l m a b same c = absurd (never_rose c.0)
sink_cause WriteFault l m a b same c = (same, c.1)
sink_cause NoMemory l m a b same c = (same, c.1)

pub sink_caused : {D : Type 0} (result : Result (running.Running D) (ending.UnitEnd D))
    (l m a b : ℕ) → m ≡ l → TurnCausedBy result 0 0 a b → TurnCausedBy result l m a b
sink_caused (Ok unit) l m a b same c = (same, c.1)
sink_caused (Err end) l m a b same c = sink_cause end.status l m a b same c

-- and without a sink's call, beside a sink that stays, after the link had taken an event
link_cause : (status : UnitStatus) (k l m a : ℕ) → l ≡ k → CausedBy status l m 0 0
    → CausedBy status k m a a
link_cause Done k l m a same c = (c.0 ∙ same, refl)
link_cause DiskFault k l m a same c = (c.0 ∙ same, refl)
link_cause NoUnit k l m a same c = (c.0 ∙ same, refl)
link_cause LinkFault k l m a same c = (subst (λ (n : ℕ). Rose n m) same c.0, refl)
link_cause WriteFault k l m a same c = absurd (never_rose c.1)
link_cause NoMemory k l m a same c = (c.0 ∙ same, refl)

pub link_caused : {D : Type 0} (result : Result (running.Running D) (ending.UnitEnd D))
    (k l m a : ℕ) → l ≡ k → TurnCausedBy result l m 0 0 → TurnCausedBy result k m a a
link_caused (Ok unit) k l m a same c = (c.0 ∙ same, refl)
link_caused (Err end) k l m a same c = link_cause end.status k l m a same c

-- ---- a start

refused_by : {D : Type 0} (refusal : StartRefusal D) (a : ℕ) → StartCause (refusal_status refusal) a a
refused_by (refused.NoUnit disk length magic room) a = refl
refused_by (refused.Fault disk) a = refl
refused_by (refused.NoImage disk slot gate size) a = refl
refused_by (refused.NoMemory disk) a = refl

pub refused_caused : {D : Type 0} (refusal : StartRefusal D) (status : UnitStatus) (a : ℕ)
    → status ≡ refusal_status refusal → StartCause status a a
refused_caused refusal status a is =
    subst (λ (x : UnitStatus). StartCause x a a) (sym is) (refused_by refusal a)

bare_by : {D : Type 0} (refusal : StartRefusal D) → EndsBare (refusal_status refusal)
bare_by (refused.NoUnit disk length magic room) = tt
bare_by (refused.Fault disk) = tt
bare_by (refused.NoImage disk slot gate size) = tt
bare_by (refused.NoMemory disk) = tt

-- a refused start is how a run ends on a disk of no unit
pub refused_bare : {D : Type 0} (refusal : StartRefusal D) (status : UnitStatus)
    → status ≡ refusal_status refusal → EndsBare status
refused_bare refusal status is =
    subst (λ (x : UnitStatus). EndsBare x) (sym is) (bare_by refusal)

pub write_caused : (status : UnitStatus) (a b : ℕ) → status ≡ WriteFault → Rose a b
    → StartCause status a b
write_caused status a b is rose =
    subst (λ (x : UnitStatus). StartCause x a b) (sym is) rose

pub starved_caused : (status : UnitStatus) (a b : ℕ) → status ≡ NoMemory → b ≡ a
    → StartCause status a b
starved_caused status a b is same =
    subst (λ (x : UnitStatus). StartCause x a b) (sym is) same

-- what a first start came to, beside a link that no call has reached
pub started_cause : (status : UnitStatus) (l a b : ℕ) → StartCause status a b
    → CausedBy status l l a b
started_cause status l a b c = sink_cause status l l a b refl (start_cause status a b c)

-- ---- ends of a run

pub link_broke : (status : UnitStatus) (a b c d : ℕ) → status ≡ LinkFault → Rose a b → d ≡ c
    → CausedBy status a b c d
link_broke status a b c d is rose same =
    subst (λ (x : UnitStatus). CausedBy x a b c d) (sym is) (rose, same)

pub link_starved : (status : UnitStatus) (a b c : ℕ) → status ≡ NoMemory → b ≡ a
    → CausedBy status a b c c
link_starved status a b c is same =
    subst (λ (x : UnitStatus). CausedBy x a b c c) (sym is) (same, refl)

pub ended_done : (status : UnitStatus) (a b c d : ℕ) → status ≡ Done → b ≡ a → d ≡ c
    → CausedBy status a b c d
ended_done status a b c d is link sink =
    subst (λ (x : UnitStatus). CausedBy x a b c d) (sym is) (link, sink)

-- the counts before it were those of the beginning
pub caused_from : (status : UnitStatus) (k l m a b d : ℕ) → l ≡ k → b ≡ a
    → CausedBy status l m b d → CausedBy status k m a d
caused_from status k l m a b d link sink c =
    subst (λ (x : ℕ). CausedBy status x m a d) link
    (subst (λ (y : ℕ). CausedBy status l m y d) sink c)

-- ---- the count of lives

pub lives_same : {D : Type 0} (result : Result (running.Running D) (ending.UnitEnd D))
    (life turn : ℕ) → life ≤ turn → IfOk result (λ next. next.life ≡ life)
    → IfOk result (λ next. next.life ≤ turn + 1)
lives_same (Ok unit) life turn below is = omega (arith, below, is)
lives_same (Err end) life turn below is = is

pub lives_more : {D : Type 0} (result : Result (running.Running D) (ending.UnitEnd D))
    (life turn : ℕ) → life ≤ turn → IfOk result (λ next. next.life ≡ life + 1)
    → IfOk result (λ next. next.life ≤ turn + 1)
lives_more (Ok unit) life turn below is = omega (arith, below, is)
lives_more (Err end) life turn below is = is
