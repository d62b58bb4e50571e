-- What a packet comes to, by what the agent says of it; and a line that was written in part.
use Rattle.std.proofs.Common.{◌≡◌, ℕ, false, List, [], ◌∷◌, Option, Result, Ok, Err, MatchResult}
use Rattle.std.proofs.Common.{sym, ap, ◌∙◌, subst}
use Rattle.std.specs.Io.KnownBytes.{Appends}
use Rattle.omci_core.specs.Causes.{Rose}
use Rattle.slot_spec.specs.Rig.{Rigged}
use Rattle.unit_spec.specs.declared.Did.{Did}
use Rattle.unit_spec.specs.Onu.{Onu, onu_received}
use Rattle.onu_agent.specs.State.{State}
use Rattle.onu_agent.specs.Received.{Received}
use Rattle.whole_writes.specs.Writing.{BreaksOff}
use Rattle.turn_spec.specs.UnitTurns.{reply_of}
use Rattle.omci_link.specs.Arrivals.{sent_after}
use Rattle.unit_turns.specs.Taking.{PacketTaken, LineBroken, sent_more}
use Rattle.unit_turns.proofs.Showing.{sent_none}

module _ {D : Type 0} (seen : D → Option (List ℕ)) (may_leave : D → List ℕ → Type 0)
    (clock : D → ℕ) (left_since : D → ℕ → List ℕ → Type 0) (rig : D → Option Rigged)
    (faults : D → ℕ) where
  pub packet_taken : (old new : State D) (did : Did) (reply bytes : List ℕ) (u : Onu)
      → new.spent ≡ false
      → Received seen may_leave clock left_since rig faults old.unit new.unit did reply bytes u
      → PacketTaken seen may_leave clock left_since rig faults old new (reply_of did reply) bytes u
  packet_taken old new did reply bytes u sound r =
      record {
        fails = r.fails;
        stands = record { sound = sound; stands = r.stands };
        disk = r.disk;
        answer = ap (λ (d : Did). reply_of d reply) r.did_is
            ∙ ap (λ (p : List ℕ). reply_of (onu_received r.fails bytes u).did p) r.reply_is;
      }

-- a front of the line stands where the sink failed
pub line_broke : (line piece : List ℕ) (before now : Option (List ℕ)) (faults_before faults_now : ℕ)
    → piece ≡ line → BreaksOff piece before now faults_before faults_now
    → LineBroken line before now × Rose faults_before faults_now
line_broke line piece before now faults_before faults_now is b = (
  record { front = b.done; rest = b.rest; parts = sym b.parts ∙ is; wrote = b.added },
  b.rose,
)

-- the whole of it stands where the sink took it
pub line_written : (line piece : List ℕ) (before now : Option (List ℕ))
    (faults_before faults_now : ℕ) → piece ≡ line → Appends before now piece
    → faults_now ≡ faults_before → Appends before now line × (faults_now ≡ faults_before)
line_written line piece before now faults_before faults_now is wrote kept = (
  subst (λ (l : List ℕ). Appends before now l) is wrote,
  kept,
)

-- a unit that has no reply sends none
pub sends_nothing : (did : Did) (reply : List ℕ) (sent : Option (List (List ℕ)))
    → reply_of did reply ≡ [] → sent ≡ sent_more (reply_of did reply) sent
sends_nothing did reply sent none =
    sym (ap (λ (p : List (List ℕ)). sent_more p sent) none ∙ sent_none sent)

-- one that has a reply sends it, or the link failed
pub sends_reply : {A E : Type 0} (result : Result A E) (did : Did) (reply bytes : List ℕ)
    (before now : Option (List (List ℕ))) → reply_of did reply ≡ reply ∷ [] → bytes ≡ reply
    → MatchResult result (λ _. now ≡ sent_after bytes before) (λ _. now ≡ before)
    → MatchResult result (λ _. now ≡ sent_more (reply_of did reply) before) (λ _. now ≡ before)
sends_reply (Ok done) did reply bytes before now has same sent =
    sent ∙ ap (λ (b : List ℕ). sent_more (b ∷ []) before) same
    ∙ ap (λ (p : List (List ℕ)). sent_more p before) (sym has)
sends_reply (Err failed) did reply bytes before now has same sent = sent
