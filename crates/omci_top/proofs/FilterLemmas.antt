-- What a filter comes to, from what was read and what it made of it, and what the top call says of it.
use Rattle.std.proofs.Common.{◌≡◌, ◌≢◌, ℕ, ◌<◌, ◌≤◌, inl, inr, List, [], length, Option, Some, Result, Ok, Err, refl, sym, ◌∙◌, ap, subst, arith}
use Rattle.std.specs.Io.KnownBytes.{Appends}
use Rattle.omci_core.specs.Causes.{Rose}
use Rattle.whole_writes.specs.Writing.{WritesFront}
use Rattle.command_lines.specs.declared.Filter.{Filter}
use Rattle.command_lines.specs.declared.Command.{Command}
use Rattle.command_lines.specs.declared.Command.TheVariants as command
use Rattle.omci_top.specs.Streams.{ReadsWhole}
use Rattle.omci_top.specs.Texts.{input_text}
use Rattle.omci_top.specs.Answers.{Ran, Told}
use Rattle.omci_top.specs.Filters.{filtered, text_of, FilterEnds, AnswersFilter}
use Rattle.omci_top.proofs.TopLemmas.{whole_is, past_long}
use Rattle.omci_top.specs.declared.status.Status.{Status}
use Rattle.omci_top.specs.declared.status.Status.TheVariants.{Done, Usage, Input, ReadFault, WriteFault, DiskFault, LinkFault, NoUnit, TooLong, NoMemory, TooLarge}

same_error : (line why place reason : ℕ)
    → ◌≡◌ {A = Result (List ℕ) (ℕ × ℕ)} (Err (line, why)) (Err (place, reason))
    → Input line why ≡ Input place reason
same_error line why place reason e =
    let same : ◌≡◌ {A = ℕ × ℕ} (line, why) (place, reason) = cc in
    ap (λ at. Input at.0 at.1) same

module _ (filter : Filter) (wb wn : Option (List ℕ)) (kb kn : ℕ) where
  -- the whole output was written, or a front of it
  pub filter_ran : (s : Status) (text input : List ℕ) → filtered filter input ≡ Ok text
      → Ran s text wb wn kb kn → FilterEnds s filter input wb wn kb kn
  filter_ran Done text input is ran = ((text, is, ran.0), ran.1)
  filter_ran Usage text input is ran = elim ran [ ]
  filter_ran (Input place reason) text input is ran = elim ran [ ]
  filter_ran ReadFault text input is ran = elim ran [ ]
  filter_ran WriteFault text input is ran = (subst (λ t. WritesFront t wb wn) (sym (ap text_of is)) ran.0, ran.1)
  filter_ran DiskFault text input is ran = elim ran [ ]
  filter_ran LinkFault text input is ran = elim ran [ ]
  filter_ran NoUnit text input is ran = elim ran [ ]
  filter_ran TooLong text input is ran = elim ran [ ]
  filter_ran NoMemory text input is ran = (inr (subst (λ t. WritesFront t wb wn) (sym (ap text_of is)) ran.0), ran.1)
  filter_ran TooLarge text input is ran = elim ran [ ]

  -- its first fault was told
  pub filter_told : (s : Status) (line why : ℕ) (input : List ℕ)
      → filtered filter input ≡ Err (line, why) → Told s line why wb wn kb kn
      → FilterEnds s filter input wb wn kb kn
  filter_told Done line why input faulty told = elim told [ ]
  filter_told Usage line why input faulty told = elim told [ ]
  filter_told (Input place reason) line why input faulty told =
      let is = ap (λ l. input_text l reason) told.0 ∙ ap (input_text line) told.1 in
      (faulty ∙ ap (λ l. Err (l, why)) (sym told.0) ∙ ap (λ r. Err (place, r)) (sym told.1), subst (λ text. Appends wb wn text) (sym is) told.2, told.3)
  filter_told ReadFault line why input faulty told = elim told [ ]
  filter_told WriteFault line why input faulty told = (subst (λ t. WritesFront t wb wn) (sym (ap text_of faulty)) told.0, told.1)
  filter_told DiskFault line why input faulty told = elim told [ ]
  filter_told LinkFault line why input faulty told = elim told [ ]
  filter_told NoUnit line why input faulty told = elim told [ ]
  filter_told TooLong line why input faulty told = elim told [ ]
  filter_told NoMemory line why input faulty told = (inr (subst (λ t. WritesFront t wb wn) (sym (ap text_of faulty)) told.0), told.1)
  filter_told TooLarge line why input faulty told = elim told [ ]

  module _ (lb ln : Option (List ℕ)) (rb rn : ℕ) where
    -- what the filter over the input that was read came to is the answer
    pub filter_answers : (s : Status) (input : List ℕ) → ReadsWhole 16777216 lb ln input → rn ≡ rb
        → FilterEnds s filter input wb wn kb kn
        → AnswersFilter s filter lb ln wb wn rb rn kb kn
    filter_answers Done input read same ends = (record { input = input; read = read; ends = ends }, same)
    filter_answers Usage input read same ends = elim ends [ ]
    filter_answers (Input place reason) input read same ends = (record { input = input; read = read; ends = ends }, same)
    filter_answers ReadFault input read same ends = elim ends [ ]
    filter_answers WriteFault input read same ends = (record { input = input; read = read; ends = ends }, same)
    filter_answers DiskFault input read same ends = elim ends [ ]
    filter_answers LinkFault input read same ends = elim ends [ ]
    filter_answers NoUnit input read same ends = elim ends [ ]
    filter_answers TooLong input read same ends = elim ends [ ]
    filter_answers NoMemory input read same ends = (inr (record { input = input; read = read; ends = ends }), same)
    filter_answers TooLarge input read same ends = elim ends [ ]

    -- where memory suffices and nothing outside fails, an input without a fault is filtered
    pub filter_runs_of : (s : Status) → AnswersFilter s filter lb ln wb wn rb rn kb kn
        → (text bytes : List ℕ) → lb ≡ Some bytes → length bytes ≤ 16777216
        → filtered filter bytes ≡ Ok text → ¬ Rose rb rn → ¬ Rose kb kn → s ≢ NoMemory → s ≡ Done
    filter_runs_of Done a text bytes told few is calm_source calm_sink some = refl
    filter_runs_of Usage a text bytes told few is calm_source calm_sink some = elim a.0.ends [ ]
    filter_runs_of (Input place reason) a text bytes told few is calm_source calm_sink some =
        let at : filtered filter bytes ≡ Err (place, reason) = ap (filtered filter) (sym (whole_is bytes a.0.input lb ln told a.0.read)) ∙ a.0.ends.0 in
        absurd (cc)
    filter_runs_of ReadFault a text bytes told few is calm_source calm_sink some = absurd (calm_source a.0)
    filter_runs_of WriteFault a text bytes told few is calm_source calm_sink some = absurd (calm_sink a.0.ends.1)
    filter_runs_of DiskFault a text bytes told few is calm_source calm_sink some = elim a.0.ends [ ]
    filter_runs_of LinkFault a text bytes told few is calm_source calm_sink some = elim a.0.ends [ ]
    filter_runs_of NoUnit a text bytes told few is calm_source calm_sink some = elim a.0.ends [ ]
    filter_runs_of TooLong a text bytes told few is calm_source calm_sink some = absurd (omega (arith, past_long bytes lb ln told a.0))
    filter_runs_of NoMemory a text bytes told few is calm_source calm_sink some = absurd (some refl)
    filter_runs_of TooLarge a text bytes told few is calm_source calm_sink some = elim a.0.ends [ ]

    -- and one with a fault is refused for its first one
    pub filter_refuses_of : (s : Status) → AnswersFilter s filter lb ln wb wn rb rn kb kn
        → (line why : ℕ) (bytes : List ℕ) → lb ≡ Some bytes → length bytes ≤ 16777216
        → filtered filter bytes ≡ Err (line, why) → ¬ Rose rb rn → ¬ Rose kb kn → s ≢ NoMemory
        → s ≡ Input line why
    filter_refuses_of Done a line why bytes told few faulty calm_source calm_sink some =
        let is : filtered filter bytes ≡ Ok a.0.ends.0.0 = ap (filtered filter) (sym (whole_is bytes a.0.input lb ln told a.0.read)) ∙ a.0.ends.0.1 in
        absurd (cc)
    filter_refuses_of Usage a line why bytes told few faulty calm_source calm_sink some = elim a.0.ends [ ]
    filter_refuses_of (Input place reason) a line why bytes told few faulty calm_source calm_sink some =
        let is : ◌≡◌ {A = Result (List ℕ) (ℕ × ℕ)} (Err (place, reason)) (Err (line, why)) = sym (ap (filtered filter) (sym (whole_is bytes a.0.input lb ln told a.0.read)) ∙ a.0.ends.0) ∙ faulty in
        same_error place reason line why is
    filter_refuses_of ReadFault a line why bytes told few faulty calm_source calm_sink some = absurd (calm_source a.0)
    filter_refuses_of WriteFault a line why bytes told few faulty calm_source calm_sink some = absurd (calm_sink a.0.ends.1)
    filter_refuses_of DiskFault a line why bytes told few faulty calm_source calm_sink some = elim a.0.ends [ ]
    filter_refuses_of LinkFault a line why bytes told few faulty calm_source calm_sink some = elim a.0.ends [ ]
    filter_refuses_of NoUnit a line why bytes told few faulty calm_source calm_sink some = elim a.0.ends [ ]
    filter_refuses_of TooLong a line why bytes told few faulty calm_source calm_sink some = absurd (omega (arith, past_long bytes lb ln told a.0))
    filter_refuses_of NoMemory a line why bytes told few faulty calm_source calm_sink some = absurd (some refl)
    filter_refuses_of TooLarge a line why bytes told few faulty calm_source calm_sink some = elim a.0.ends [ ]

    -- and more bytes than the most are too long
    pub filter_stops_of : (s : Status) → AnswersFilter s filter lb ln wb wn rb rn kb kn
        → (bytes : List ℕ) → lb ≡ Some bytes → 16777216 < length bytes → ¬ Rose rb rn → s ≢ NoMemory
        → s ≡ TooLong
    filter_stops_of Done a bytes told long calm_source some = absurd (omega (arith, long, a.0.read.bound, ap length (whole_is bytes a.0.input lb ln told a.0.read)))
    filter_stops_of Usage a bytes told long calm_source some = elim a.0.ends [ ]
    filter_stops_of (Input place reason) a bytes told long calm_source some = absurd (omega (arith, long, a.0.read.bound, ap length (whole_is bytes a.0.input lb ln told a.0.read)))
    filter_stops_of ReadFault a bytes told long calm_source some = absurd (calm_source a.0)
    filter_stops_of WriteFault a bytes told long calm_source some = absurd (omega (arith, long, a.0.read.bound, ap length (whole_is bytes a.0.input lb ln told a.0.read)))
    filter_stops_of DiskFault a bytes told long calm_source some = elim a.0.ends [ ]
    filter_stops_of LinkFault a bytes told long calm_source some = elim a.0.ends [ ]
    filter_stops_of NoUnit a bytes told long calm_source some = elim a.0.ends [ ]
    filter_stops_of TooLong a bytes told long calm_source some = refl
    filter_stops_of NoMemory a bytes told long calm_source some = absurd (some refl)
    filter_stops_of TooLarge a bytes told long calm_source some = elim a.0.ends [ ]

-- the filter that the words name
pub filter_of_words : (which : Command) (found : Option Command) (made filter : Filter) (s : Status)
    (lb ln wb wn : Option (List ℕ)) (rb rn kb kn : ℕ) → Some which ≡ found
    → which ≡ command.Filter made → AnswersFilter s made lb ln wb wn rb rn kb kn
    → found ≡ Some (command.Filter filter) → AnswersFilter s filter lb ln wb wn rb rn kb kn
filter_of_words which found made filter s lb ln wb wn rb rn kb kn is kind answers words =
    let same : made ≡ filter = cc in
    subst (λ f. AnswersFilter s f lb ln wb wn rb rn kb kn) same answers
