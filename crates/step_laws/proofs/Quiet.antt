-- What the manager does tells nothing of the unit.
use Rattle.std.proofs.Common.{◌≡◌, ◌≢◌, ℕ, ◌+◌, Bool, true, false, List, [], ◌∷◌, ◌++◌, map, Option}
use Rattle.std.proofs.Common.{Some, None, refl, sym}
use Rattle.std.proofs.lemmas.Bool.{false≢true}
use Rattle.std.specs.List.{flat_map}
use Rattle.omci_types.specs.declared.Priority.{Priority}
use Rattle.omci_types.specs.declared.Priority.TheVariants.{Low, High}
use Rattle.alarm_spec.specs.Alarms.{Alarm}
use Rattle.upload_spec.specs.Pieces.{Copy}
use Rattle.manager_spec.specs.declared.Report.{Report}
use Rattle.manager_spec.specs.declared.Report.TheVariants as report
use Rattle.manager_spec.specs.Manager.{Manager, Outcome, Sending, Stage, EndingImage}
use Rattle.unit_spec.specs.Onu.{Onu}
use Rattle.world_spec.specs.Happenings.{Happening, UnitCarried, UnitNoted, CommandDrawn, ReplyTaken}
use Rattle.world_spec.specs.Happenings.{NoticeTaken, CopyTold, TableTold, ImageStored, ImageTold}
use Rattle.world_spec.specs.Ends.{sends, if_drawn, image_told, download_told, if_asked, goes_down}
use Rattle.world_spec.specs.Ends.{copy_told, result_told, report_told}
use Rattle.world_spec.specs.History.{Told, tell, tell_all}
use Rattle.resync_laws.proofs.Telling.{deeds_of, all_deeds}
use Rattle.step_laws.proofs.Parts.{Kept}

abbrev is_unit : Happening → Bool
is_unit (UnitCarried life reply before) = true
is_unit (UnitNoted life note before) = true
is_unit _ = false

abbrev AllAside : List Happening → Type 0
AllAside [] = Unit {0}
AllAside (h ∷ rest) = (is_unit h ≡ false) × AllAside rest

aside_append : (xs ys : List Happening) → AllAside xs → AllAside ys → AllAside (xs ++ ys)
aside_append [] ys h k = k
aside_append (x ∷ xs) ys h k = (h.0, aside_append xs ys h.1 k)

pub kept_tell : (lives : ℕ) (unit : Option Onu) (h : Happening) (t : Told) → is_unit h ≡ false
    → Kept lives unit t.history → Kept lives unit (tell h t).history
kept_tell lives unit (UnitCarried life reply before) t e k = absurd (false≢true (sym e))
kept_tell lives unit (UnitNoted life note before) t e k = absurd (false≢true (sym e))
kept_tell lives unit (ReplyTaken lane) t e k =
    record { has = k.has; past = k.past; snapshots = k.snapshots }
kept_tell lives unit (TableTold table) t e k =
    record { has = k.has; past = k.past; snapshots = k.snapshots }
kept_tell lives unit (CopyTold copy) t e k =
    record { has = k.has; past = k.past; snapshots = k.snapshots }
kept_tell lives unit (ImageStored entry) t e k =
    record { has = k.has; past = k.past; snapshots = k.snapshots }
kept_tell lives unit (ImageTold slot image) t e k =
    record { has = k.has; past = k.past; snapshots = k.snapshots }
kept_tell lives unit (CommandDrawn Low) t e k = k
kept_tell lives unit (CommandDrawn High) t e k = k
kept_tell lives unit _ t e k = k

kept_all : (lives : ℕ) (unit : Option Onu) (hs : List Happening) (t : Told) → AllAside hs
    → Kept lives unit t.history → Kept lives unit (tell_all hs t).history
kept_all lives unit [] t a k = k
kept_all lives unit (h ∷ hs) t a k =
    kept_all lives unit hs (tell h t) a.1 (kept_tell lives unit h t a.0 k)

aside_taken : (lanes : List Priority) → AllAside (map ReplyTaken lanes)
aside_taken [] = tt
aside_taken (x ∷ lanes) = (refl, aside_taken lanes)

aside_noticed : (notices : List Alarm) → AllAside (map NoticeTaken notices)
aside_noticed [] = tt
aside_noticed (x ∷ notices) = (refl, aside_noticed notices)

aside_copy : (copy : Option Copy) → AllAside (copy_told copy)
aside_copy None = tt
aside_copy (Some copy) = (refl, tt)

aside_result : (r : Report) (m : Manager) → AllAside (result_told r m)
aside_result (report.Synced entities counter) m = aside_copy m.copy
aside_result (report.Audited rows) m = (refl, tt)
aside_result _ m = tt

aside_reports : (rs : List Report) (m : Manager) → AllAside (flat_map (report_told m) rs)
aside_reports [] m = tt
aside_reports (r ∷ rs) m = (
  refl,
  aside_append (result_told r m) (flat_map (report_told m) rs) (aside_result r m)
      (aside_reports rs m),
)

aside_packets : (lane : Priority) (packets : List (List ℕ))
    → AllAside (map (goes_down lane) packets)
aside_packets lane [] = tt
aside_packets lane (p ∷ packets) = (refl, aside_packets lane packets)

aside_sending : (s : Sending) → AllAside (sends s)
aside_sending s =
    aside_append (if_drawn s.drawn s.lane ++ if_asked s.asks s.lane)
    (map (goes_down s.lane) s.packets)
    (aside_append (if_drawn s.drawn s.lane) (if_asked s.asks s.lane) (drawn s.drawn) (asked s.asks))
    (aside_packets s.lane s.packets)
  where
    drawn : (b : Bool) → AllAside (if_drawn b s.lane)
    drawn true = (refl, tt)
    drawn false = tt

    asked : (b : Bool) → AllAside (if_asked b s.lane)
    asked true = (refl, tt)
    asked false = tt

aside_sends : (ss : List Sending) → AllAside (flat_map sends ss)
aside_sends [] = tt
aside_sends (s ∷ ss) = aside_append (sends s) (flat_map sends ss) (aside_sending s) (aside_sends ss)

aside_image : (before : Option Stage) (slot : ℕ) → AllAside (image_told before slot)
aside_image (Some (EndingImage order image busy)) slot = (refl, tt)
aside_image None slot = tt
aside_image (Some _) slot = tt

aside_download : (before : Option Stage) (r : Report) → AllAside (download_told before r)
aside_download before (report.ImageDone slot) = aside_image before slot
aside_download before _ = tt

aside_downloads : (before : Option Stage) (rs : List Report)
    → AllAside (flat_map (download_told before) rs)
aside_downloads before [] = tt
aside_downloads before (r ∷ rs) =
    aside_append (download_told before r) (flat_map (download_told before) rs)
    (aside_download before r) (aside_downloads before rs)

pub kept_deeds : (before : Option Stage) (lives : ℕ) (unit : Option Onu) (o : Outcome) (t : Told)
    → Kept lives unit t.history → Kept lives unit (tell_all (all_deeds before o) t).history
kept_deeds before lives unit o t k =
    kept_all lives unit (all_deeds before o) t
    (aside_append (deeds_of o) (flat_map (download_told before) o.manager.reports)
    (aside_append (map ReplyTaken o.taken ++ map NoticeTaken o.noticed ++ flat_map
    (report_told o.manager) o.manager.reports) (flat_map sends o.sendings)
    (aside_append (map ReplyTaken o.taken ++ map NoticeTaken o.noticed)
    (flat_map (report_told o.manager) o.manager.reports)
    (aside_append (map ReplyTaken o.taken) (map NoticeTaken o.noticed) (aside_taken o.taken)
    (aside_noticed o.noticed))
    (aside_reports o.manager.reports o.manager))
    (aside_sends o.sendings)) (aside_downloads before o.manager.reports)) k
