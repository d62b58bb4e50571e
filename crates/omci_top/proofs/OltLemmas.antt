-- What a run of the manager comes to, from what was read and what the run was, and what the top call says of it.
use Rattle.std.proofs.Common.{◌≡◌, ◌≢◌, ℕ, ◌<◌, ◌≤◌, inl, inr, List, [], length, Option, Some, None, refl, sym, ◌∙◌, ap, subst, arith}
use Rattle.std.specs.Io.KnownBytes.{Appends}
use Rattle.omci_core.specs.Causes.{Rose}
use Rattle.script_spec.specs.Script.{Orders}
use Rattle.script_spec.specs.Grammar.{WritesOrders}
use Rattle.script_spec.specs.Fault.{orders_fault}
use Rattle.script_laws.proofs.Scripts.{orders_reading-Writes}
use Rattle.script_laws.proofs.FaultLaws.{no_orders_fault}
use Rattle.turn_spec.specs.Arrivals.{Arrival}
use Rattle.command_lines.specs.declared.Command.{Command}
use Rattle.command_lines.specs.declared.Command.TheVariants.{Olt}
use Rattle.omci_top.specs.Streams.{ReadsWhole}
use Rattle.omci_top.specs.Texts.{input_text}
use Rattle.omci_top.specs.Answers.{Told}
use Rattle.omci_top.specs.Olts.{RanOrders, OltEnds, AnswersOlt}
use Rattle.omci_top.proofs.TopLemmas.{whole_is, past_long, same_fault}
use Rattle.omci_top.specs.declared.status.Status.{Status}
use Rattle.omci_top.specs.declared.status.Status.TheVariants.{Done, Usage, Input, ReadFault, WriteFault, DiskFault, LinkFault, NoUnit, TooLong, NoMemory, TooLarge}

module _ {L : Type 0} (left : L → Option (List Arrival)) (sent : L → Option (List (List ℕ)))
    (faults : L → ℕ) (turns : ℕ) (before now : L) (wb wn : Option (List ℕ)) (kb kn : ℕ) where
  -- the orders that the input spells were run
  pub olt_ran : (s : Status) (orders : Orders) (input : List ℕ) → WritesOrders orders input
      → RanOrders left sent faults s turns orders before now wb wn kb kn
      → OltEnds left sent faults s turns input before now wb wn kb kn
  olt_ran Done orders input spelled ran = ((orders, spelled, ran.0), ran.1, ran.2)
  olt_ran Usage orders input spelled ran = elim ran [ ]
  olt_ran (Input place reason) orders input spelled ran = elim ran [ ]
  olt_ran ReadFault orders input spelled ran = elim ran [ ]
  olt_ran WriteFault orders input spelled ran = (inl ((orders, spelled, ran.0), ran.1), ran.2)
  olt_ran DiskFault orders input spelled ran = elim ran [ ]
  olt_ran NoUnit orders input spelled ran = elim ran [ ]
  olt_ran LinkFault orders input spelled ran = ((orders, spelled, ran.0), ran.1, ran.2)
  olt_ran TooLong orders input spelled ran = elim ran [ ]
  olt_ran NoMemory orders input spelled ran = (inl ((orders, spelled, ran.0), ran.1), ran.2)
  olt_ran TooLarge orders input spelled ran = elim ran [ ]

  -- its first fault was told
  pub olt_told : (s : Status) (line why : ℕ) (input : List ℕ)
      → orders_fault input ≡ Some (line, why) → now ≡ before → Told s line why wb wn kb kn
      → OltEnds left sent faults s turns input before now wb wn kb kn
  olt_told Done line why input faulty same told = elim told [ ]
  olt_told Usage line why input faulty same told = elim told [ ]
  olt_told (Input place reason) line why input faulty same told =
      let is = ap (λ l. input_text l reason) told.0 ∙ ap (input_text line) told.1 in
      (faulty ∙ ap (λ l. Some (l, why)) (sym told.0) ∙ ap (λ r. Some (place, r)) (sym told.1), subst (λ text. Appends wb wn text) (sym is) told.2, same, told.3)
  olt_told ReadFault line why input faulty same told = elim told [ ]
  olt_told WriteFault line why input faulty same told = (inr ((line, why, faulty, told.0), same), told.1)
  olt_told DiskFault line why input faulty same told = elim told [ ]
  olt_told LinkFault line why input faulty same told = elim told [ ]
  olt_told NoUnit line why input faulty same told = elim told [ ]
  olt_told TooLong line why input faulty same told = elim told [ ]
  olt_told NoMemory line why input faulty same told = (inr (inl ((line, why, faulty, told.0), same)), told.1)
  olt_told TooLarge line why input faulty same told = elim told [ ]

  module _ (lb ln : Option (List ℕ)) (rb rn : ℕ) where
    -- what the run on the input that was read came to is the answer
    pub olt_answers : (s : Status) (input : List ℕ) → ReadsWhole 16777216 lb ln input → rn ≡ rb
        → OltEnds left sent faults s turns input before now wb wn kb kn
        → AnswersOlt left sent faults s turns before now lb ln wb wn rb rn kb kn
    olt_answers Done input read same ends = (record { input = input; read = read; ends = ends }, same)
    olt_answers Usage input read same ends = elim ends [ ]
    olt_answers (Input place reason) input read same ends = (record { input = input; read = read; ends = ends }, same)
    olt_answers ReadFault input read same ends = elim ends [ ]
    olt_answers WriteFault input read same ends = (record { input = input; read = read; ends = ends }, same)
    olt_answers DiskFault input read same ends = elim ends [ ]
    olt_answers NoUnit input read same ends = elim ends [ ]
    olt_answers LinkFault input read same ends = (record { input = input; read = read; ends = ends }, same)
    olt_answers TooLong input read same ends = elim ends [ ]
    olt_answers NoMemory input read same ends = (inr (record { input = input; read = read; ends = ends }), same)
    olt_answers TooLarge input read same ends = elim ends [ ]

    -- where memory suffices and nothing outside fails, orders are run to their end
    pub olt_runs_of : (s : Status) → AnswersOlt left sent faults s turns before now lb ln wb wn rb rn kb kn
        → (orders : Orders) (bytes : List ℕ) → lb ≡ Some bytes → length bytes ≤ 16777216
        → WritesOrders orders bytes → ¬ Rose rb rn → ¬ Rose kb kn → ¬ Rose (faults before) (faults now)
        → s ≢ NoMemory → s ≡ Done
    olt_runs_of Done a orders bytes told few spelled calm_source calm_sink calm_link some = refl
    olt_runs_of Usage a orders bytes told few spelled calm_source calm_sink calm_link some = elim a.0.ends [ ]
    olt_runs_of (Input place reason) a orders bytes told few spelled calm_source calm_sink calm_link some =
        let none : orders_fault bytes ≡ None = no_orders_fault bytes orders (orders_reading-Writes orders bytes spelled) in
        let at : orders_fault bytes ≡ Some (place, reason) = ap orders_fault (sym (whole_is bytes a.0.input lb ln told a.0.read)) ∙ a.0.ends.0 in
        absurd (cc)
    olt_runs_of ReadFault a orders bytes told few spelled calm_source calm_sink calm_link some = absurd (calm_source a.0)
    olt_runs_of WriteFault a orders bytes told few spelled calm_source calm_sink calm_link some = absurd (calm_sink a.0.ends.1)
    olt_runs_of DiskFault a orders bytes told few spelled calm_source calm_sink calm_link some = elim a.0.ends [ ]
    olt_runs_of NoUnit a orders bytes told few spelled calm_source calm_sink calm_link some = elim a.0.ends [ ]
    olt_runs_of LinkFault a orders bytes told few spelled calm_source calm_sink calm_link some = absurd (calm_link a.0.ends.1)
    olt_runs_of TooLong a orders bytes told few spelled calm_source calm_sink calm_link some = absurd (omega (arith, past_long bytes lb ln told a.0))
    olt_runs_of NoMemory a orders bytes told few spelled calm_source calm_sink calm_link some = absurd (some refl)
    olt_runs_of TooLarge a orders bytes told few spelled calm_source calm_sink calm_link some = elim a.0.ends [ ]

    -- and bytes with a fault are refused for their first one
    pub olt_refuses_of : (s : Status) → AnswersOlt left sent faults s turns before now lb ln wb wn rb rn kb kn
        → (line why : ℕ) (bytes : List ℕ) → lb ≡ Some bytes → length bytes ≤ 16777216
        → orders_fault bytes ≡ Some (line, why) → ¬ Rose rb rn → ¬ Rose kb kn
        → ¬ Rose (faults before) (faults now) → s ≢ NoMemory → s ≡ Input line why
    olt_refuses_of Done a line why bytes told few faulty calm_source calm_sink calm_link some =
        let none : orders_fault bytes ≡ None = no_orders_fault bytes a.0.ends.0.0 (orders_reading-Writes a.0.ends.0.0 bytes (subst (λ b. WritesOrders a.0.ends.0.0 b) (whole_is bytes a.0.input lb ln told a.0.read) a.0.ends.0.1)) in
        absurd (cc)
    olt_refuses_of Usage a line why bytes told few faulty calm_source calm_sink calm_link some = elim a.0.ends [ ]
    olt_refuses_of (Input place reason) a line why bytes told few faulty calm_source calm_sink calm_link some =
        let at : orders_fault bytes ≡ Some (place, reason) = ap orders_fault (sym (whole_is bytes a.0.input lb ln told a.0.read)) ∙ a.0.ends.0 in
        let is : ◌≡◌ {A = Option (ℕ × ℕ)} (Some (place, reason)) (Some (line, why)) = sym at ∙ faulty in
        same_fault place reason line why is
    olt_refuses_of ReadFault a line why bytes told few faulty calm_source calm_sink calm_link some = absurd (calm_source a.0)
    olt_refuses_of WriteFault a line why bytes told few faulty calm_source calm_sink calm_link some = absurd (calm_sink a.0.ends.1)
    olt_refuses_of DiskFault a line why bytes told few faulty calm_source calm_sink calm_link some = elim a.0.ends [ ]
    olt_refuses_of NoUnit a line why bytes told few faulty calm_source calm_sink calm_link some = elim a.0.ends [ ]
    olt_refuses_of LinkFault a line why bytes told few faulty calm_source calm_sink calm_link some = absurd (calm_link a.0.ends.1)
    olt_refuses_of TooLong a line why bytes told few faulty calm_source calm_sink calm_link some = absurd (omega (arith, past_long bytes lb ln told a.0))
    olt_refuses_of NoMemory a line why bytes told few faulty calm_source calm_sink calm_link some = absurd (some refl)
    olt_refuses_of TooLarge a line why bytes told few faulty calm_source calm_sink calm_link some = elim a.0.ends [ ]

    -- and more bytes than the most are too long
    pub olt_stops_of : (s : Status) → AnswersOlt left sent faults s turns before now lb ln wb wn rb rn kb kn
        → (bytes : List ℕ) → lb ≡ Some bytes → 16777216 < length bytes → ¬ Rose rb rn → s ≢ NoMemory
        → s ≡ TooLong
    olt_stops_of Done a bytes told long calm_source some = absurd (omega (arith, long, a.0.read.bound, ap length (whole_is bytes a.0.input lb ln told a.0.read)))
    olt_stops_of Usage a bytes told long calm_source some = elim a.0.ends [ ]
    olt_stops_of (Input place reason) a bytes told long calm_source some = absurd (omega (arith, long, a.0.read.bound, ap length (whole_is bytes a.0.input lb ln told a.0.read)))
    olt_stops_of ReadFault a bytes told long calm_source some = absurd (calm_source a.0)
    olt_stops_of WriteFault a bytes told long calm_source some = absurd (omega (arith, long, a.0.read.bound, ap length (whole_is bytes a.0.input lb ln told a.0.read)))
    olt_stops_of DiskFault a bytes told long calm_source some = elim a.0.ends [ ]
    olt_stops_of NoUnit a bytes told long calm_source some = elim a.0.ends [ ]
    olt_stops_of LinkFault a bytes told long calm_source some = absurd (omega (arith, long, a.0.read.bound, ap length (whole_is bytes a.0.input lb ln told a.0.read)))
    olt_stops_of TooLong a bytes told long calm_source some = refl
    olt_stops_of NoMemory a bytes told long calm_source some = absurd (some refl)
    olt_stops_of TooLarge a bytes told long calm_source some = elim a.0.ends [ ]

-- the run of so many turns as the words say
pub olt_of_words : {L : Type 0} (left : L → Option (List Arrival)) (sent : L → Option (List (List ℕ)))
    (faults : L → ℕ) (which : Command) (found : Option Command) (made turns : ℕ) (s : Status)
    (before now : L) (lb ln wb wn : Option (List ℕ)) (rb rn kb kn : ℕ) → Some which ≡ found
    → which ≡ Olt made → AnswersOlt left sent faults s made before now lb ln wb wn rb rn kb kn
    → found ≡ Some (Olt turns) → AnswersOlt left sent faults s turns before now lb ln wb wn rb rn kb kn
olt_of_words left sent faults which found made turns s before now lb ln wb wn rb rn kb kn is kind answers words =
    let same : made ≡ turns = cc in
    subst (λ n. AnswersOlt left sent faults s n before now lb ln wb wn rb rn kb kn) same answers
