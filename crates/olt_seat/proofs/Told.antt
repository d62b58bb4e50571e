-- The lines and the packets of what happens at the manager.
use Rattle.std.proofs.Common.{◌≡◌, ℕ, ◌+◌, Bool, true, false, List, [], ◌∷◌, ◌++◌, length, map, Option, Some, None, refl, sym, ◌∙◌, ap, append_assoc, arith}
use Rattle.std.specs.List.{flat_map}
use Rattle.std.proofs.lemmas.List.{append-nil, length-append}
use Rattle.frame_spec.specs.Baseline.{frame_of}
use Rattle.omci_types.specs.declared.Priority.{Priority}
use Rattle.link_spec.specs.declared.Direction.TheVariants.{Down}
use Rattle.manager_spec.specs.declared.Report.{Report}
use Rattle.upload_spec.specs.Pieces.{Copy}
use Rattle.alarm_spec.specs.Alarms.{Alarm}
use Rattle.manager_spec.specs.declared.Report.TheVariants as report
use Rattle.manager_spec.specs.Manager.{Manager, Outcome, Sending, packets_of}
use Rattle.manager_spec.specs.Manager.{Stage, Probing, Asking, Gathering, AskingAlarms, GatheringRows, StartingImage, SendingImage, EndingImage, DelayingEnd}
use Rattle.world_spec.specs.declared.Effect.TheVariants as effect
use Rattle.world_spec.specs.Happenings.{Happening, ReplyTaken, NoticeTaken, next_after, next_after_all}
use Rattle.world_spec.specs.Ends.{Ends, stage_in, image_told, download_told, sends, if_drawn, if_asked, goes_down, copy_told, result_told, report_told, manager_did}
use Rattle.world_spec.specs.Trace.{line_text, lines_text, happening_text}
use Rattle.turn_spec.specs.OltTurns.{packet_in, packets_in}
use Rattle.trace_lines.specs.Reports.{copy_text, told_text, report_lines, reports_text}
use Rattle.olt_seat.specs.Seat.{downs_text}

-- what happens has these lines, where the first packet has that number, and these packets
pub record Tells (event : ℕ) (hs : List Happening) (text : ℕ → List ℕ) (packets : List (List ℕ)) : Type 0 where
  pub text_is : (next : ℕ) → lines_text event next hs ≡ text next
  pub packets_is : packets_in hs ≡ packets
  pub count_is : (next : ℕ) → next_after_all hs next ≡ next + length packets

-- nothing is seen of it
abbrev pub Silent : ℕ → List Happening → Type 0
Silent event hs = Tells event hs (λ next. []) []

none_after : (next : ℕ) → next ≡ next + 0
none_after next = omega arith

tells_none : (event : ℕ) → Silent event []
tells_none event = record { text_is = λ next. refl; packets_is = refl; count_is = λ next. none_after next }

-- ---- one part after the other

lines_both : (event next : ℕ) (xs ys : List Happening) → lines_text event next (xs ++ ys) ≡ lines_text event next xs ++ lines_text event (next_after_all xs next) ys
lines_both event next [] ys = refl
lines_both event next (x ∷ xs) ys =
    let line = happening_text event next x in
    ap (λ t. line ++ t) (lines_both event (next_after x next) xs ys)
    ∙ sym (append_assoc line (lines_text event (next_after x next) xs) (lines_text event (next_after_all xs (next_after x next)) ys))

next_both : (xs ys : List Happening) (next : ℕ) → next_after_all (xs ++ ys) next ≡ next_after_all ys (next_after_all xs next)
next_both [] ys next = refl
next_both (x ∷ xs) ys next = next_both xs ys (next_after x next)

packets_both : (xs ys : List Happening) → packets_in (xs ++ ys) ≡ packets_in xs ++ packets_in ys
packets_both [] ys = refl
packets_both (x ∷ xs) ys =
    ap (λ ps. packet_in x ++ ps) (packets_both xs ys)
    ∙ sym (append_assoc (packet_in x) (packets_in xs) (packets_in ys))

more_after : (next : ℕ) (ps qs : List (List ℕ)) → (next + length ps) + length qs ≡ next + length (ps ++ qs)
more_after next ps qs = simp (length-append) (omega arith)

tells_then : (event : ℕ) (xs ys : List Happening) (t u : ℕ → List ℕ) (ps qs : List (List ℕ)) → Tells event xs t ps → Tells event ys u qs
    → Tells event (xs ++ ys) (λ next. t next ++ u (next + length ps)) (ps ++ qs)
tells_then event xs ys t u ps qs first second = record {
  text_is = λ next. lines_both event next xs ys
      ∙ ap (λ z. z ++ lines_text event (next_after_all xs next) ys) (first.text_is next)
      ∙ ap (λ n. t next ++ lines_text event n ys) (first.count_is next)
      ∙ ap (λ z. t next ++ z) (second.text_is (next + length ps));
  packets_is = packets_both xs ys ∙ ap (λ z. z ++ packets_in ys) first.packets_is ∙ ap (λ z. ps ++ z) second.packets_is;
  count_is = λ next. next_both xs ys next ∙ ap (next_after_all ys) (first.count_is next)
      ∙ second.count_is (next + length ps) ∙ more_after next ps qs;
}

-- the same lines in another form
tells_as : (event : ℕ) (hs : List Happening) (t u : ℕ → List ℕ) (ps : List (List ℕ)) → Tells event hs t ps
    → ((next : ℕ) → t next ≡ u next) → Tells event hs u ps
tells_as event hs t u ps told same = record {
  text_is = λ next. told.text_is next ∙ same next;
  packets_is = told.packets_is;
  count_is = told.count_is;
}

silent_then : (event : ℕ) (xs ys : List Happening) → Silent event xs → Silent event ys → Silent event (xs ++ ys)
silent_then event xs ys first second =
    tells_as event (xs ++ ys) (λ next. [] ++ []) (λ next. []) []
    (tells_then event xs ys (λ next. []) (λ next. []) [] [] first second) (λ next. refl)

-- ---- replies and notices that were taken

tells_taken : (event : ℕ) (lanes : List Priority) → Silent event (map ReplyTaken lanes)
tells_taken event [] = tells_none event
tells_taken event (l ∷ ls) =
    let rest = tells_taken event ls in
    record { text_is = rest.text_is; packets_is = rest.packets_is; count_is = rest.count_is }

tells_noticed : (event : ℕ) (notices : List Alarm) → Silent event (map NoticeTaken notices)
tells_noticed event [] = tells_none event
tells_noticed event (n ∷ ns) =
    let rest = tells_noticed event ns in
    record { text_is = rest.text_is; packets_is = rest.packets_is; count_is = rest.count_is }

-- ---- reports

tells_copy : (event : ℕ) (copy : Option Copy) → Tells event (copy_told copy) (λ next. copy_text event copy) []
tells_copy event None = tells_none event
tells_copy event (Some copy) = record {
  text_is = λ next. append-nil (copy_text event (Some copy));
  packets_is = refl;
  count_is = λ next. none_after next;
}

tells_result : (event : ℕ) (r : Report) (m : Manager) → Tells event (result_told r m) (λ next. told_text event r m.copy m.table.rows) []
tells_result event (report.Synced entities counter) m = tells_copy event m.copy
tells_result event (report.Audited rows) m = record {
  text_is = λ next. append-nil (told_text event (report.Audited rows) m.copy m.table.rows);
  packets_is = refl;
  count_is = λ next. none_after next;
}
tells_result event _ m = tells_none event

tells_report : (event : ℕ) (m : Manager) (r : Report) → Tells event (report_told m r) (λ next. report_lines event m.copy m.table.rows r) []
tells_report event m r =
    let rest = tells_result event r m in
    record {
      text_is = λ next. ap (λ t. line_text event (effect.Reported r) ++ t) (rest.text_is next);
      packets_is = rest.packets_is;
      count_is = rest.count_is;
    }

tells_reports : (event : ℕ) (m : Manager) (rs : List Report)
    → Tells event (flat_map (report_told m) rs) (λ next. reports_text event m.copy m.table.rows rs) []
tells_reports event m [] = tells_none event
tells_reports event m (r ∷ rs) =
    let line = report_lines event m.copy m.table.rows r in
    let later = reports_text event m.copy m.table.rows rs in
    tells_as event (report_told m r ++ flat_map (report_told m) rs) (λ next. line ++ later) (λ next. line ++ later) []
    (tells_then event (report_told m r) (flat_map (report_told m) rs) (λ next. line) (λ next. later) [] []
    (tells_report event m r) (tells_reports event m rs))
    (λ next. refl)

-- ---- packets that go down

downs_both : (event next : ℕ) (ps qs : List (List ℕ)) → downs_text event next ps ++ downs_text event (next + length ps) qs ≡ downs_text event next (ps ++ qs)
downs_both event next [] qs = ap (λ n. downs_text event n qs) (sym (none_after next))
downs_both event next (p ∷ ps) qs =
    let line = line_text event (effect.PacketSent next Down (frame_of p)) in
    let count : next + length (p ∷ ps) ≡ (next + 1) + length ps = omega arith in
    append_assoc line (downs_text event (next + 1) ps) (downs_text event (next + length (p ∷ ps)) qs)
    ∙ ap (λ n. line ++ (downs_text event (next + 1) ps ++ downs_text event n qs)) count
    ∙ ap (λ t. line ++ t) (downs_both event (next + 1) ps qs)

one_more_after : (next : ℕ) (p : List ℕ) (ps : List (List ℕ)) → (next + 1) + length ps ≡ next + length (p ∷ ps)
one_more_after next p ps = omega arith

tells_packets : (event : ℕ) (lane : Priority) (ps : List (List ℕ))
    → Tells event (map (goes_down lane) ps) (λ next. downs_text event next ps) ps
tells_packets event lane [] = tells_none event
tells_packets event lane (p ∷ ps) =
    let rest = tells_packets event lane ps in
    record {
      text_is = λ next. ap (λ t. line_text event (effect.PacketSent next Down (frame_of p)) ++ t) (rest.text_is (next + 1));
      packets_is = ap (λ qs. p ∷ qs) rest.packets_is;
      count_is = λ next. rest.count_is (next + 1) ∙ one_more_after next p ps;
    }

tells_drawn : (event : ℕ) (b : Bool) (lane : Priority) → Silent event (if_drawn b lane)
tells_drawn event true lane = record { text_is = λ next. refl; packets_is = refl; count_is = λ next. none_after next }
tells_drawn event false lane = tells_none event

tells_asked : (event : ℕ) (b : Bool) (lane : Priority) → Silent event (if_asked b lane)
tells_asked event true lane = record { text_is = λ next. refl; packets_is = refl; count_is = λ next. none_after next }
tells_asked event false lane = tells_none event

tells_sending : (event : ℕ) (s : Sending) → Tells event (sends s) (λ next. downs_text event next s.packets) s.packets
tells_sending event s =
    let before = silent_then event (if_drawn s.drawn s.lane) (if_asked s.asks s.lane)
    (tells_drawn event s.drawn s.lane) (tells_asked event s.asks s.lane) in
    tells_as event (sends s) (λ next. [] ++ downs_text event (next + 0) s.packets) (λ next. downs_text event next s.packets) s.packets
    (tells_then event (if_drawn s.drawn s.lane ++ if_asked s.asks s.lane) (map (goes_down s.lane) s.packets)
    (λ next. []) (λ next. downs_text event next s.packets) [] s.packets before (tells_packets event s.lane s.packets))
    (λ next. ap (λ n. downs_text event n s.packets) (sym (none_after next)))

tells_sendings : (event : ℕ) (ss : List Sending)
    → Tells event (flat_map sends ss) (λ next. downs_text event next (packets_of ss)) (packets_of ss)
tells_sendings event [] = tells_none event
tells_sendings event (s ∷ ss) =
    tells_as event (sends s ++ flat_map sends ss)
    (λ next. downs_text event next s.packets ++ downs_text event (next + length s.packets) (packets_of ss))
    (λ next. downs_text event next (s.packets ++ packets_of ss)) (s.packets ++ packets_of ss)
    (tells_then event (sends s) (flat_map sends ss) (λ next. downs_text event next s.packets)
    (λ next. downs_text event next (packets_of ss)) s.packets (packets_of ss) (tells_sending event s) (tells_sendings event ss))
    (λ next. downs_both event next s.packets (packets_of ss))

-- ---- downloads that have ended

tells_image : (event : ℕ) (before : Option Stage) (slot : ℕ) → Silent event (image_told before slot)
tells_image event None slot = tells_none event
tells_image event (Some (Probing high low)) slot = tells_none event
tells_image event (Some Asking) slot = tells_none event
tells_image event (Some (Gathering expected number copy)) slot = tells_none event
tells_image event (Some AskingAlarms) slot = tells_none event
tells_image event (Some (GatheringRows expected number)) slot = tells_none event
tells_image event (Some (StartingImage order asked image)) slot = tells_none event
tells_image event (Some (SendingImage order outgoing resent)) slot = tells_none event
tells_image event (Some (EndingImage order image busy)) slot =
    record { text_is = λ next. refl; packets_is = refl; count_is = λ next. none_after next }
tells_image event (Some (DelayingEnd order image busy)) slot = tells_none event

tells_download : (event : ℕ) (before : Option Stage) (r : Report) → Silent event (download_told before r)
tells_download event before (report.ImageDone slot) = tells_image event before slot
tells_download event before _ = tells_none event

tells_downloads : (event : ℕ) (before : Option Stage) (rs : List Report) → Silent event (flat_map (download_told before) rs)
tells_downloads event before [] = tells_none event
tells_downloads event before (r ∷ rs) =
    silent_then event (download_told before r) (flat_map (download_told before) rs)
    (tells_download event before r) (tells_downloads event before rs)

-- ---- all that the manager did

abbrev pub did_text : (event : ℕ) (o : Outcome) → ℕ → List ℕ
did_text event o next =
    reports_text event o.manager.copy o.manager.table.rows o.manager.reports
    ++ downs_text event next (packets_of o.sendings)

pub tells_did : (event : ℕ) (o : Outcome) (e : Ends)
    → Tells event (manager_did o e).happenings (did_text event o) (packets_of o.sendings)
tells_did event o e =
    let taken = map ReplyTaken o.taken in
    let notices = map NoticeTaken o.noticed in
    let told = flat_map (report_told o.manager) o.manager.reports in
    let sent = flat_map sends o.sendings in
    let ended = flat_map (download_told (stage_in e.manager)) o.manager.reports in
    let reports = reports_text event o.manager.copy o.manager.table.rows o.manager.reports in
    let packets = packets_of o.sendings in
    let quiet = silent_then event taken notices (tells_taken event o.taken) (tells_noticed event o.noticed) in
    let reported = tells_then event (taken ++ notices) told (λ next. []) (λ next. reports) [] []
    quiet (tells_reports event o.manager o.manager.reports) in
    let down = tells_then event ((taken ++ notices) ++ told) sent (λ next. [] ++ reports) (λ next. downs_text event next packets) [] packets
    reported (tells_sendings event o.sendings) in
    let all = tells_then event (((taken ++ notices) ++ told) ++ sent) ended
    (λ next. ([] ++ reports) ++ downs_text event (next + 0) packets) (λ next. []) packets []
    down (tells_downloads event (stage_in e.manager) o.manager.reports) in
    record {
      text_is = λ next. all.text_is next ∙ append-nil (reports ++ downs_text event (next + 0) packets)
          ∙ ap (λ n. reports ++ downs_text event n packets) (sym (none_after next));
      packets_is = all.packets_is ∙ append-nil packets;
      count_is = λ next. all.count_is next ∙ ap (λ ps. next + length ps) (append-nil packets);
    }
