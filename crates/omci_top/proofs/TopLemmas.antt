-- What each clause of the top call takes from what a replay came to.
use Rattle.std.proofs.Common.{◌≡◌, ◌≢◌, ℕ, Bool, true, false, ◌<◌, ◌≤◌, List, length, Option, Some, None, refl, sym, ◌∙◌, ap, subst, arith, length-append}
use Rattle.std.specs.Io.KnownBytes.{Consumes}
use Rattle.omci_core.specs.Causes.{Rose}
use Rattle.omci_core.proofs.Streams.{Consumes-whole}
use Rattle.script_spec.specs.Script.{Script}
use Rattle.script_spec.specs.Grammar.{Writes}
use Rattle.script_spec.specs.Fault.{fault}
use Rattle.script_laws.proofs.Scripts.{reading-Writes}
use Rattle.script_laws.proofs.FaultLaws.{no_fault_from_reading}
use Rattle.omci_top.specs.Streams.{ReadsWhole, ReadsPast}
use Rattle.omci_top.specs.declared.status.Status.{Status}
use Rattle.omci_top.specs.declared.status.Status.TheVariants.{Done, Usage, Input, ReadFault, WriteFault, DiskFault, LinkFault, NoUnit, TooLong, NoMemory, TooLarge}
use Rattle.link_replay.specs.Seen.{State}
use Rattle.omci_top.specs.Answers.{AnswersReplay}
use Rattle.command_lines.specs.declared.Command.{Command}
use Rattle.command_lines.specs.declared.Command.TheVariants.{Drill}
use Rattle.omci_top.specs.Drills.{AnswersDrill}

-- what a source that tells its bytes gave whole is those bytes
pub whole_is : (bytes input : List ℕ) (before now : Option (List ℕ)) → before ≡ Some bytes → ReadsWhole 16777216 before now input → input ≡ bytes
whole_is bytes input before now e read = Consumes-whole bytes now input (subst (λ b. Consumes b now input) e read.taken) read.ended

-- what it gave past the limit is no more than those bytes
pub past_long : (bytes : List ℕ) (before now : Option (List ℕ)) → before ≡ Some bytes → ReadsPast 16777216 before now → 16777216 < length bytes
past_long bytes before now e past = long now past.bytes (subst (λ b. Consumes b now past.bytes) e past.taken) past.bound
  where
    long : (n : Option (List ℕ)) (taken : List ℕ) → Consumes (Some bytes) n taken → 16777216 < length taken → 16777216 < length bytes
    long None taken c h = elim c [ ]
    long (Some left) taken c h = omega (arith, ap length c, length-append taken left)

-- a script has no fault
no_fault : (script : Script) (bytes : List ℕ) → Writes script bytes → fault bytes ≡ None
no_fault script bytes spelled = no_fault_from_reading bytes script (reading-Writes script bytes spelled)

pub same_fault : (line why place reason : ℕ) → ◌≡◌ {A = Option (ℕ × ℕ)} (Some (line, why)) (Some (place, reason)) → Input line why ≡ Input place reason
same_fault line why place reason e =
    let same : ◌≡◌ {A = ℕ × ℕ} (line, why) (place, reason) = cc in
    ap (λ at. Input at.0 at.1) same

-- a command that calls an object isn't one that doesn't
pub is_called : (calls : Option Command → Bool) (which kind : Command) (found : Option Command)
    → Some which ≡ found → which ≡ kind → calls (Some kind) ≡ true → calls found ≡ false → ⊥
is_called calls which kind found is kind_is called other =
    let e : ◌≡◌ {A = Bool} true false =
    sym called ∙ ap (λ k. calls (Some k)) (sym kind_is) ∙ ap calls is ∙ other in
    cc

module _ (w : Option State) (lb ln wb wn : Option (List ℕ)) (rb rn kb kn : ℕ) where
  pub runs_of : (s : Status) → AnswersReplay s w lb ln wb wn rb rn kb kn → (script : Script) (bytes : List ℕ) → lb ≡ Some bytes → length bytes ≤ 16777216 → Writes script bytes → ¬ Rose rb rn → ¬ Rose kb kn → s ≢ NoMemory → s ≡ Done
  runs_of Done a script bytes told few spelled calm_source calm_sink some = refl
  runs_of Usage a script bytes told few spelled calm_source calm_sink some = elim a [ ]
  runs_of (Input place reason) a script bytes told few spelled calm_source calm_sink some =
      let none : fault bytes ≡ None = no_fault script bytes spelled in
      let at : fault bytes ≡ Some (place, reason) = ap fault (sym (whole_is bytes a.0.input lb ln told a.0.read)) ∙ a.0.faulty in
      absurd (cc)
  runs_of ReadFault a script bytes told few spelled calm_source calm_sink some = absurd (calm_source a.0)
  runs_of WriteFault a script bytes told few spelled calm_source calm_sink some = absurd (calm_sink a.2)
  runs_of DiskFault a script bytes told few spelled calm_source calm_sink some = elim a [ ]
  runs_of LinkFault a script bytes told few spelled calm_source calm_sink some = elim a [ ]
  runs_of NoUnit a script bytes told few spelled calm_source calm_sink some = elim a [ ]
  runs_of TooLong a script bytes told few spelled calm_source calm_sink some = absurd (omega (arith, past_long bytes lb ln told a.0))
  runs_of NoMemory a script bytes told few spelled calm_source calm_sink some = absurd (some refl)
  runs_of TooLarge a script bytes told few spelled calm_source calm_sink some = elim a [ ]

  pub refuses_of : (s : Status) → AnswersReplay s w lb ln wb wn rb rn kb kn → (place reason : ℕ) (bytes : List ℕ) → lb ≡ Some bytes → length bytes ≤ 16777216 → fault bytes ≡ Some (place, reason) → ¬ Rose rb rn → ¬ Rose kb kn → s ≢ NoMemory → s ≡ Input place reason
  refuses_of Done a place reason bytes told few faulty calm_source calm_sink some =
      let none : fault bytes ≡ None = no_fault a.0.script bytes (subst (λ b. Writes a.0.script b) (whole_is bytes a.0.input lb ln told a.0.read) a.0.spelled) in
      absurd (cc)
  refuses_of Usage a place reason bytes told few faulty calm_source calm_sink some = elim a [ ]
  refuses_of (Input line why) a place reason bytes told few faulty calm_source calm_sink some =
      let at : fault bytes ≡ Some (line, why) = ap fault (sym (whole_is bytes a.0.input lb ln told a.0.read)) ∙ a.0.faulty in
      let same : ◌≡◌ {A = Option (ℕ × ℕ)} (Some (line, why)) (Some (place, reason)) = sym at ∙ faulty in
      same_fault line why place reason same
  refuses_of ReadFault a place reason bytes told few faulty calm_source calm_sink some = absurd (calm_source a.0)
  refuses_of WriteFault a place reason bytes told few faulty calm_source calm_sink some = absurd (calm_sink a.2)
  refuses_of DiskFault a place reason bytes told few faulty calm_source calm_sink some = elim a [ ]
  refuses_of LinkFault a place reason bytes told few faulty calm_source calm_sink some = elim a [ ]
  refuses_of NoUnit a place reason bytes told few faulty calm_source calm_sink some = elim a [ ]
  refuses_of TooLong a place reason bytes told few faulty calm_source calm_sink some = absurd (omega (arith, past_long bytes lb ln told a.0))
  refuses_of NoMemory a place reason bytes told few faulty calm_source calm_sink some = absurd (some refl)
  refuses_of TooLarge a place reason bytes told few faulty calm_source calm_sink some = elim a [ ]

-- the drill of the number that the words carry
pub drill_of_words : (which : Command) (found : Option Command) (made seed : ℕ) (s : Status)
    (w : Option State) (wb wn : Option (List ℕ)) (kb kn : ℕ) → Some which ≡ found
    → which ≡ Drill made → AnswersDrill s w made wb wn kb kn → found ≡ Some (Drill seed)
    → AnswersDrill s w seed wb wn kb kn
drill_of_words which found made seed s w wb wn kb kn is kind answers words =
    let same : made ≡ seed = cc in
    subst (λ n. AnswersDrill s w n wb wn kb kn) same answers

-- a drill ends as it should where memory suffices and no write fails
pub drill_runs_of : (s : Status) (w : Option State) (seed : ℕ) (wb wn : Option (List ℕ)) (kb kn : ℕ)
    → AnswersDrill s w seed wb wn kb kn → ¬ Rose kb kn → s ≢ NoMemory → s ≡ Done
drill_runs_of Done w seed wb wn kb kn a calm some = refl
drill_runs_of Usage w seed wb wn kb kn a calm some = elim a.ran [ ]
drill_runs_of (Input place reason) w seed wb wn kb kn a calm some = elim a.ran [ ]
drill_runs_of ReadFault w seed wb wn kb kn a calm some = elim a.ran [ ]
drill_runs_of WriteFault w seed wb wn kb kn a calm some = absurd (calm a.ran.1)
drill_runs_of DiskFault w seed wb wn kb kn a calm some = elim a.ran [ ]
drill_runs_of LinkFault w seed wb wn kb kn a calm some = elim a.ran [ ]
drill_runs_of NoUnit w seed wb wn kb kn a calm some = elim a.ran [ ]
drill_runs_of TooLong w seed wb wn kb kn a calm some = elim a.ran [ ]
drill_runs_of NoMemory w seed wb wn kb kn a calm some = absurd (some refl)
drill_runs_of TooLarge w seed wb wn kb kn a calm some = elim a.ran [ ]
