-- What the answer to an input says, from what a run of it came to.
use Rattle.std.proofs.Common.{◌≡◌, ℕ, List, take, Option, Some, Ok, Err, refl, sym, ◌∙◌, ap, subst, inr}
use Rattle.std.specs.Io.KnownBytes.{Appends}
use Rattle.std.specs.List.{All}
use Rattle.script_spec.specs.Script.{Script, Header, Action, IsAction}
use Rattle.script_spec.specs.Grammar.{Writes}
use Rattle.script_spec.specs.Fault.{fault}
use Rattle.script_spec.specs.Reading.{reading}
use Rattle.script_laws.proofs.Scripts.{reading-Writes, reading_range}
use Rattle.world_spec.specs.Trace.{trace}
use Rattle.tci_spec.specs.Tci.{IsNumber}
use Rattle.history_spec.specs.History.{Once, Answered, SyncedRight, AuditedRight, DownloadedRight, store_history}
use Rattle.store_spec.specs.History.{Bootable}
use Rattle.world_spec.specs.Ends.{factory_slots}
use Rattle.world_spec.specs.Nodes.{first_nodes, nodes_after}
use Rattle.world_spec.specs.History.{history_of}
use Rattle.step_laws.specs.InStep.{ScriptInStep}
use Rattle.boot_laws.specs.Slots.{slots_in}
use Rattle.omci_top.specs.Streams.{ReadsWhole}
use Rattle.omci_top.specs.Headline.{ActsOnce, TakesOwnReplies, CopiesDatabases, StaysInStep, AuditsAlarms, DownloadsImages, AlwaysBoots}
use Rattle.omci_top.specs.Texts.{input_text, answer_of, answer_to}
use Rattle.omci_top.specs.declared.status.Status.{Status}
use Rattle.omci_top.specs.declared.status.Status.TheVariants.{Done, Usage, Input, ReadFault, WriteFault, DiskFault, LinkFault, NoUnit, TooLong, NoMemory, TooLarge}
use Rattle.link_replay.specs.Seen.{State}
use Rattle.whole_writes.specs.Writing.{WritesFront}
use Rattle.omci_top.specs.Answers.{Ran, Told, Ends, AnswersReplay, StandsAfter}

pub answer_to_script : (input : List ℕ) (script : Script) → reading input ≡ Ok script → answer_to input ≡ trace script
unfolding answer_to
answer_to_script input script e = ap answer_of e

pub answer_to_fault : (input : List ℕ) (place reason : ℕ) → reading input ≡ Err (place, reason) → answer_to input ≡ input_text place reason
unfolding answer_to
answer_to_fault input place reason e = ap answer_of e

-- a script was run
pub Ends-ran : (s : Status) (world : Option State) (script : Script) (input : List ℕ) (before now : Option (List ℕ)) (faults_before faults_now : ℕ) → Writes script input → answer_to input ≡ trace script → (s ≡ Done → StandsAfter script world) → Ran s (trace script) before now faults_before faults_now → Ends s world input before now faults_before faults_now
Ends-ran Done world script input before now fb fn spelled is ended ran = ((script, spelled, ran.0, ended refl), ran.1)
Ends-ran Usage world script input before now fb fn spelled is ended ran = elim ran [ ]
Ends-ran (Input place reason) world script input before now fb fn spelled is ended ran = elim ran [ ]
Ends-ran ReadFault world script input before now fb fn spelled is ended ran = elim ran [ ]
Ends-ran WriteFault world script input before now fb fn spelled is ended ran = (subst (λ text. WritesFront text before now) (sym is) ran.0, ran.1)
Ends-ran DiskFault world script input before now fb fn spelled is ended ran = elim ran [ ]
Ends-ran LinkFault world script input before now fb fn spelled is ended ran = elim ran [ ]
Ends-ran NoUnit world script input before now fb fn spelled is ended ran = elim ran [ ]
Ends-ran TooLong world script input before now fb fn spelled is ended ran = elim ran [ ]
Ends-ran NoMemory world script input before now fb fn spelled is ended ran = (subst (λ text. WritesFront text before now) (sym is) ran.0, ran.1)
Ends-ran TooLarge world script input before now fb fn spelled is ended ran = elim ran [ ]

-- a fault was told
pub Ends-told : (s : Status) (world : Option State) (place reason : ℕ) (input : List ℕ) (before now : Option (List ℕ)) (faults_before faults_now : ℕ) → fault input ≡ Some (place, reason) → answer_to input ≡ input_text place reason → Told s place reason before now faults_before faults_now → Ends s world input before now faults_before faults_now
Ends-told Done world place reason input before now fb fn faulty is told = elim told [ ]
Ends-told Usage world place reason input before now fb fn faulty is told = elim told [ ]
Ends-told (Input line why) world place reason input before now fb fn faulty is told =
    let same = ap (λ l. input_text l why) told.0 ∙ ap (input_text place) told.1 in
    (faulty ∙ ap (λ l. Some (l, reason)) (sym told.0) ∙ ap (λ r. Some (line, r)) (sym told.1), subst (λ text. Appends before now text) (sym same) told.2, told.3)
Ends-told ReadFault world place reason input before now fb fn faulty is told = elim told [ ]
Ends-told WriteFault world place reason input before now fb fn faulty is told = (subst (λ text. WritesFront text before now) (sym is) told.0, told.1)
Ends-told DiskFault world place reason input before now fb fn faulty is told = elim told [ ]
Ends-told LinkFault world place reason input before now fb fn faulty is told = elim told [ ]
Ends-told NoUnit world place reason input before now fb fn faulty is told = elim told [ ]
Ends-told TooLong world place reason input before now fb fn faulty is told = elim told [ ]
Ends-told NoMemory world place reason input before now fb fn faulty is told = (subst (λ text. WritesFront text before now) (sym is) told.0, told.1)
Ends-told TooLarge world place reason input before now fb fn faulty is told = elim told [ ]

-- the law that no command acts twice, and that each reply taken is its command's own
abbrev pub OnceLaw : Type 0
OnceLaw = (h : Header) (actions : List Action) → IsNumber h.low → IsNumber h.high → All IsAction actions → Once (history_of h actions)

abbrev pub AnsweredLaw : Type 0
AnsweredLaw = (h : Header) (actions : List Action) → IsNumber h.low → IsNumber h.high → All IsAction actions → Answered (history_of h actions)

-- the law that each copy is what its upload put by
abbrev pub SyncedLaw : Type 0
SyncedLaw = (h : Header) (actions : List Action) → IsNumber h.low → IsNumber h.high → All IsAction actions → SyncedRight (history_of h actions)

-- the law that each table is what its audit put by, and the notices since
abbrev pub AuditedLaw : Type 0
AuditedLaw =
    (h : Header) (actions : List Action) → IsNumber h.low → IsNumber h.high → All IsAction actions
    → AuditedRight (history_of h actions)

-- the law that a manager in step and its unit keep step
abbrev pub InStepLaw : Type 0
InStepLaw =
    (h : Header) (actions : List Action) → IsNumber h.low → IsNumber h.high → All IsAction actions
    → ScriptInStep h actions

-- the law that a download leaves its image
abbrev pub DownloadedLaw : Type 0
DownloadedLaw =
    (h : Header) (actions : List Action) → IsNumber h.low → IsNumber h.high → All IsAction actions
    → DownloadedRight (history_of h actions)

-- the law that the unit can start after each line
abbrev pub BootsLaw : Type 0
BootsLaw =
    (h : Header) (actions : List Action)
    → Bootable (store_history (history_of h actions)) (factory_slots h.factory)
    (slots_in (nodes_after actions (first_nodes h)).ends)

-- what the laws of the machine say of a script
pub record Lawful (script : Script) : Type 0 where
  pub once : ActsOnce script
  pub answered : TakesOwnReplies script
  pub synced : CopiesDatabases script
  pub in_step : StaysInStep script
  pub audited : AuditsAlarms script
  pub downloaded : DownloadsImages script
  pub bootable : AlwaysBoots script

-- the numbers of a script's header and its lines are in their ranges, so the laws of the machine
-- hold of it
pub laws_hold : OnceLaw → AnsweredLaw → SyncedLaw → InStepLaw → AuditedLaw → DownloadedLaw → BootsLaw
    → (script : Script) (input : List ℕ) → Writes script input → Lawful script
laws_hold once answered synced in_step audited downloaded boots script input spelled =
    let ranges = reading_range input script (reading-Writes script input spelled) in
    let header = ranges.header in
    let low : IsNumber script.header.low = record { some = header.low_some; most = header.low_most } in
    let high : IsNumber script.header.high = record { some = header.high_some; most = header.high_most } in
    record {
      once = once script.header script.actions low high ranges.actions;
      answered = answered script.header script.actions low high ranges.actions;
      synced = synced script.header script.actions low high ranges.actions;
      in_step = in_step script.header script.actions low high ranges.actions;
      audited = audited script.header script.actions low high ranges.actions;
      downloaded = downloaded script.header script.actions low high ranges.actions;
      bootable = λ lines. boots script.header (take lines script.actions);
    }

-- so the answer says of source and sink what it has to say
pub AnswersReplay-ends : ((script : Script) (input : List ℕ) → Writes script input → Lawful script)
    → (s : Status) (world : Option State) (input : List ℕ)
    (left_before left_now written_before written_now : Option (List ℕ))
    (read_before read_now write_before write_now : ℕ) → ReadsWhole 16777216 left_before left_now input
    → read_now ≡ read_before → Ends s world input written_before written_now write_before write_now
    → AnswersReplay s world left_before left_now written_before written_now read_before read_now write_before write_now
AnswersReplay-ends laws Done world input lb ln wb wn rb rn kb kn read same ends =
    let k = laws ends.0.0 input ends.0.1 in (
      record {
        input = input;
        script = ends.0.0;
        read = read;
        spelled = ends.0.1;
        traced = ends.0.2;
        ended = ends.0.3;
        once = k.once;
        answered = k.answered;
        synced = k.synced;
        in_step = k.in_step;
        audited = k.audited;
        downloaded = k.downloaded;
        bootable = k.bootable;
      },
      same,
      ends.1,
    )
AnswersReplay-ends laws Usage world input lb ln wb wn rb rn kb kn read same ends = elim ends [ ]
AnswersReplay-ends laws (Input place reason) world input lb ln wb wn rb rn kb kn read same ends =
    (record { input = input; read = read; faulty = ends.0; told = ends.1 }, same, ends.2)
AnswersReplay-ends laws ReadFault world input lb ln wb wn rb rn kb kn read same ends = elim ends [ ]
AnswersReplay-ends laws WriteFault world input lb ln wb wn rb rn kb kn read same ends =
    (record { input = input; read = read; front = ends.0 }, same, ends.1)
AnswersReplay-ends laws DiskFault world input lb ln wb wn rb rn kb kn read same ends = elim ends [ ]
AnswersReplay-ends laws LinkFault world input lb ln wb wn rb rn kb kn read same ends = elim ends [ ]
AnswersReplay-ends laws NoUnit world input lb ln wb wn rb rn kb kn read same ends = elim ends [ ]
AnswersReplay-ends laws TooLong world input lb ln wb wn rb rn kb kn read same ends = elim ends [ ]
AnswersReplay-ends laws NoMemory world input lb ln wb wn rb rn kb kn read same ends =
    (inr (record { input = input; read = read; front = ends.0 }), same, ends.1)
AnswersReplay-ends laws TooLarge world input lb ln wb wn rb rn kb kn read same ends = elim ends [ ]
