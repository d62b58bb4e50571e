-- What a step of the ends makes of the link and of a text, in the forms in which the code makes it.
use Rattle.std.proofs.Common.{◌≡◌, subst, ℕ, ◌+◌, Bool, true, false, List, [], ◌∷◌, ◌++◌, length, map, Option, Some, None, refl, sym, ◌∙◌, ap, append_assoc, arith}
use Rattle.std.specs.List.{flat_map}
use Rattle.std.proofs.lemmas.List.{append-nil}
use Rattle.frame_spec.specs.Baseline.{frame_of}
use Rattle.omci_types.specs.declared.Priority.{Priority}
use Rattle.link_spec.specs.declared.Direction.TheVariants.{Down}
use Rattle.link_spec.specs.Held.{Held, held_sent}
use Rattle.manager_spec.specs.declared.Report.{Report}
use Rattle.manager_spec.specs.declared.Refusal.{Refusal}
use Rattle.upload_spec.specs.Pieces.{Copy}
use Rattle.alarm_spec.specs.Alarms.{Alarm}
use Rattle.manager_spec.specs.declared.Report.TheVariants as report
use Rattle.manager_spec.specs.Manager.{Manager, Outcome, Sending, packets_of}
use Rattle.manager_spec.specs.Manager.{Stage, Probing, Asking, Gathering, AskingAlarms, GatheringRows, StartingImage, SendingImage, EndingImage, DelayingEnd}
use Rattle.manager_spec.specs.Submitting.{Submission}
use Rattle.manager_spec.specs.Steps.{after_packet, after_tick}
use Rattle.olt_manager.specs.State.{State, sound}
use Rattle.world_spec.specs.declared.Effect.TheVariants as effect
use Rattle.world_spec.specs.Happenings.{Happening, ReplyTaken, NoticeTaken, held_read, next_after_all}
use Rattle.world_spec.specs.Ends.{Ends, Step, still, not_enabled, stage_in, image_told, download_told, sends, if_drawn, if_asked, goes_down, copy_told, result_told, report_told, manager_did, submission_by, submission, manager_got, manager_ticks}
use Rattle.world_spec.specs.Trace.{line_text, lines_text}
use Rattle.link_replay.proofs.Reading.{lines_both, held_both}
use Rattle.link_replay.specs.Seen.{Seen, EndsStand, Follows, Scene, Shown, shown, followed, with_downs, downs_text, down}
use Rattle.trace_lines.specs.Reports.{copy_text, told_text, reports_text}

-- a line alone
pub one_line : (text line : List ℕ) → text ++ (line ++ []) ≡ text ++ line
one_line text line = ap (λ l. text ++ l) (append-nil line)

-- two lines, one after the other
pub two_lines : (text first second : List ℕ) → text ++ (first ++ (second ++ [])) ≡ (text ++ first) ++ second
two_lines text first second = ap (λ l. text ++ (first ++ l)) (append-nil second) ∙ sym (append_assoc text first second)

-- ---- reports

copy_then : (event next : ℕ) (copy : Option Copy) (rest : List Happening)
    → lines_text event next (copy_told copy ++ rest)
    ≡ copy_text event copy ++ lines_text event next rest
copy_then event next None rest = refl
copy_then event next (Some copy) rest = refl

copy_held : (copy : Option Copy) (rest : List Happening) (h : Held)
    → held_read (copy_told copy ++ rest) h ≡ held_read rest h
copy_held None rest h = refl
copy_held (Some copy) rest h = refl

told_then : (event next : ℕ) (r : Report) (m : Manager) (rest : List Happening)
    → lines_text event next (result_told r m ++ rest)
    ≡ told_text event r m.copy m.table.rows ++ lines_text event next rest
told_then event next (report.Synced entities counter) m rest = copy_then event next m.copy rest
told_then event next (report.Audited rows) m rest = refl
told_then event next _ m rest = refl

told_held : (r : Report) (m : Manager) (rest : List Happening) (h : Held)
    → held_read (result_told r m ++ rest) h ≡ held_read rest h
told_held (report.Synced entities counter) m rest h = copy_held m.copy rest h
told_held (report.Audited rows) m rest h = refl
told_held _ m rest h = refl

reports_then : (event next : ℕ) (m : Manager) (rs : List Report) (rest : List Happening)
    → lines_text event next (flat_map (report_told m) rs ++ rest)
    ≡ reports_text event m.copy m.table.rows rs ++ lines_text event next rest
reports_then event next m [] rest = refl
reports_then event next m (r ∷ rs) rest =
    let line = line_text event (effect.Reported r) in
    let later = flat_map (report_told m) rs ++ rest in
    let told = told_text event r m.copy m.table.rows in
    let others = reports_text event m.copy m.table.rows rs in
    let end = lines_text event next rest in
    ap (λ hs. line ++ lines_text event next hs)
    (append_assoc (result_told r m) (flat_map (report_told m) rs) rest)
    ∙ ap (λ t. line ++ t) (told_then event next r m later)
    ∙ ap (λ t. line ++ (told ++ t)) (reports_then event next m rs rest)
    ∙ ap (λ t. line ++ t) (sym (append_assoc told others end))
    ∙ sym (append_assoc line (told ++ others) end)
    ∙ ap (λ t. t ++ end) (sym (append_assoc line told others))

reports_held : (m : Manager) (rs : List Report) (rest : List Happening) (h : Held)
    → held_read (flat_map (report_told m) rs ++ rest) h ≡ held_read rest h
reports_held m [] rest h = refl
reports_held m (r ∷ rs) rest h =
    ap (λ hs. held_read hs h) (append_assoc (result_told r m) (flat_map (report_told m) rs) rest)
    ∙ told_held r m (flat_map (report_told m) rs ++ rest) h
    ∙ reports_held m rs rest h

-- that replies were taken is neither a line nor a packet
taken_then : (event next : ℕ) (lanes : List Priority) (rest : List Happening)
    → lines_text event next (map ReplyTaken lanes ++ rest) ≡ lines_text event next rest
taken_then event next [] rest = refl
taken_then event next (l ∷ ls) rest = taken_then event next ls rest

taken_held : (lanes : List Priority) (rest : List Happening) (h : Held)
    → held_read (map ReplyTaken lanes ++ rest) h ≡ held_read rest h
taken_held [] rest h = refl
taken_held (l ∷ ls) rest h = taken_held ls rest h

-- nor that notices were
noticed_then : (event next : ℕ) (notices : List Alarm) (rest : List Happening)
    → lines_text event next (map NoticeTaken notices ++ rest) ≡ lines_text event next rest
noticed_then event next [] rest = refl
noticed_then event next (n ∷ ns) rest = noticed_then event next ns rest

noticed_held : (notices : List Alarm) (rest : List Happening) (h : Held)
    → held_read (map NoticeTaken notices ++ rest) h ≡ held_read rest h
noticed_held [] rest h = refl
noticed_held (n ∷ ns) rest h = noticed_held ns rest h

-- ---- packets that go down

sent_count : (p : List ℕ) (h : Held) → (held_sent (down p) h).count ≡ h.count + 1
unfolding held_sent
sent_count p h = refl

packets_then : (event next : ℕ) (lane : Priority) (ps : List (List ℕ)) (rest : List Happening) → lines_text event next (map (goes_down lane) ps ++ rest) ≡ downs_text event next ps ++ lines_text event (next + length ps) rest
packets_then event next lane [] rest = ap (λ n. lines_text event n rest) (omega arith)
packets_then event next lane (p ∷ ps) rest =
    let line = line_text event (effect.PacketSent next Down (frame_of p)) in
    ap (λ t. line ++ t) (packets_then event (next + 1) lane ps rest)
    ∙ sym (append_assoc line (downs_text event (next + 1) ps) (lines_text event (next + 1 + length ps) rest))
    ∙ ap (λ n. (line ++ downs_text event (next + 1) ps) ++ lines_text event n rest) (omega arith)

packets_held : (lane : Priority) (ps : List (List ℕ)) (rest : List Happening) (h : Held) → held_read (map (goes_down lane) ps ++ rest) h ≡ held_read rest (with_downs ps h)
packets_held lane [] rest h = refl
packets_held lane (p ∷ ps) rest h = packets_held lane ps rest (held_sent (down p) h)

downs_both : (event next : ℕ) (ps qs : List (List ℕ)) → downs_text event next (ps ++ qs) ≡ downs_text event next ps ++ downs_text event (next + length ps) qs
downs_both event next [] qs = ap (λ n. downs_text event n qs) (omega arith)
downs_both event next (p ∷ ps) qs =
    let line = line_text event (effect.PacketSent next Down (frame_of p)) in
    ap (λ t. line ++ t) (downs_both event (next + 1) ps qs)
    ∙ sym (append_assoc line (downs_text event (next + 1) ps) (downs_text event (next + 1 + length ps) qs))
    ∙ ap (λ n. (line ++ downs_text event (next + 1) ps) ++ downs_text event n qs) (omega arith)

with_downs_both : (ps qs : List (List ℕ)) (h : Held) → with_downs (ps ++ qs) h ≡ with_downs qs (with_downs ps h)
with_downs_both [] qs h = refl
with_downs_both (p ∷ ps) qs h = with_downs_both ps qs (held_sent (down p) h)

-- a drawing is neither a line nor a packet
drawn_then : (event next : ℕ) (b : Bool) (lane : Priority) (rest : List Happening) → lines_text event next (if_drawn b lane ++ rest) ≡ lines_text event next rest
drawn_then event next true lane rest = refl
drawn_then event next false lane rest = refl

drawn_held : (b : Bool) (lane : Priority) (rest : List Happening) (h : Held) → held_read (if_drawn b lane ++ rest) h ≡ held_read rest h
drawn_held true lane rest h = refl
drawn_held false lane rest h = refl

asked_then : (event next : ℕ) (b : Bool) (lane : Priority) (rest : List Happening)
    → lines_text event next (if_asked b lane ++ rest) ≡ lines_text event next rest
asked_then event next true lane rest = refl
asked_then event next false lane rest = refl

asked_held : (b : Bool) (lane : Priority) (rest : List Happening) (h : Held)
    → held_read (if_asked b lane ++ rest) h ≡ held_read rest h
asked_held true lane rest h = refl
asked_held false lane rest h = refl

-- what a sending makes happen, and then the rest
sends_then : (s : Sending) (rest : List Happening) → sends s ++ rest
    ≡ if_drawn s.drawn s.lane ++ (if_asked s.asks s.lane ++ (map (goes_down s.lane) s.packets ++ rest))
sends_then s rest =
    append_assoc (if_drawn s.drawn s.lane ++ if_asked s.asks s.lane)
    (map (goes_down s.lane) s.packets) rest
    ∙ append_assoc (if_drawn s.drawn s.lane) (if_asked s.asks s.lane)
    (map (goes_down s.lane) s.packets ++ rest)

sendings_text : (event next : ℕ) (ss : List Sending) → lines_text event next (flat_map sends ss) ≡ downs_text event next (packets_of ss)
sendings_text event next [] = refl
sendings_text event next (s ∷ ss) =
    let downs = map (goes_down s.lane) s.packets ++ flat_map sends ss in
    ap (lines_text event next) (sends_then s (flat_map sends ss))
    ∙ drawn_then event next s.drawn s.lane (if_asked s.asks s.lane ++ downs)
    ∙ asked_then event next s.asks s.lane downs
    ∙ packets_then event next s.lane s.packets (flat_map sends ss)
    ∙ ap (λ t. downs_text event next s.packets ++ t) (sendings_text event (next + length s.packets) ss)
    ∙ sym (downs_both event next s.packets (packets_of ss))

sendings_held : (ss : List Sending) (h : Held) → held_read (flat_map sends ss) h ≡ with_downs (packets_of ss) h
sendings_held [] h = refl
sendings_held (s ∷ ss) h =
    let downs = map (goes_down s.lane) s.packets ++ flat_map sends ss in
    ap (λ hs. held_read hs h) (sends_then s (flat_map sends ss))
    ∙ drawn_held s.drawn s.lane (if_asked s.asks s.lane ++ downs) h
    ∙ asked_held s.asks s.lane downs h
    ∙ packets_held s.lane s.packets (flat_map sends ss) h
    ∙ sendings_held ss (with_downs s.packets h)
    ∙ sym (with_downs_both s.packets (packets_of ss) h)

-- ---- the manager

-- the ends after the manager's step
abbrev pub manager_ends : Outcome → Ends → Ends
manager_ends o e = record e { manager = Some (record o.manager { reports = [] }) }

-- that a download has ended is neither a line nor a packet
download_silent : (event next : ℕ) (before : Option Stage) (slot : ℕ) (rest : List Happening)
    → lines_text event next (image_told before slot ++ rest) ≡ lines_text event next rest
download_silent event next None slot rest = refl
download_silent event next (Some (Probing high low)) slot rest = refl
download_silent event next (Some Asking) slot rest = refl
download_silent event next (Some (Gathering expected number copy)) slot rest = refl
download_silent event next (Some AskingAlarms) slot rest = refl
download_silent event next (Some (GatheringRows expected number)) slot rest = refl
download_silent event next (Some (StartingImage order asked image)) slot rest = refl
download_silent event next (Some (SendingImage order outgoing resent)) slot rest = refl
download_silent event next (Some (EndingImage order image busy)) slot rest = refl
download_silent event next (Some (DelayingEnd order image busy)) slot rest = refl

download_held : (before : Option Stage) (slot : ℕ) (rest : List Happening) (h : Held)
    → held_read (image_told before slot ++ rest) h ≡ held_read rest h
download_held None slot rest h = refl
download_held (Some (Probing high low)) slot rest h = refl
download_held (Some Asking) slot rest h = refl
download_held (Some (Gathering expected number copy)) slot rest h = refl
download_held (Some AskingAlarms) slot rest h = refl
download_held (Some (GatheringRows expected number)) slot rest h = refl
download_held (Some (StartingImage order asked image)) slot rest h = refl
download_held (Some (SendingImage order outgoing resent)) slot rest h = refl
download_held (Some (EndingImage order image busy)) slot rest h = refl
download_held (Some (DelayingEnd order image busy)) slot rest h = refl

ended_silent : (event next : ℕ) (before : Option Stage) (r : Report) (rest : List Happening)
    → lines_text event next (download_told before r ++ rest) ≡ lines_text event next rest
ended_silent event next before (report.ImageDone slot) rest = download_silent event next before slot rest
ended_silent event next before _ rest = refl

ended_held : (before : Option Stage) (r : Report) (rest : List Happening) (h : Held)
    → held_read (download_told before r ++ rest) h ≡ held_read rest h
ended_held before (report.ImageDone slot) rest h = download_held before slot rest h
ended_held before _ rest h = refl

downloads_silent : (event next : ℕ) (before : Option Stage) (rs : List Report)
    → lines_text event next (flat_map (download_told before) rs) ≡ []
downloads_silent event next before [] = refl
downloads_silent event next before (r ∷ rs) =
    ended_silent event next before r (flat_map (download_told before) rs)
    ∙ downloads_silent event next before rs

downloads_held : (before : Option Stage) (rs : List Report) (h : Held)
    → held_read (flat_map (download_told before) rs) h ≡ h
downloads_held before [] h = refl
downloads_held before (r ∷ rs) h =
    ended_held before r (flat_map (download_told before) rs) h ∙ downloads_held before rs h

-- what happens but for the downloads that have ended
abbrev pub seen_of : Outcome → List Happening
seen_of o =
    map ReplyTaken o.taken
    ++ map NoticeTaken o.noticed
    ++ flat_map (report_told o.manager) o.manager.reports
    ++ flat_map sends o.sendings

seen_text : (event next : ℕ) (o : Outcome) → lines_text event next (seen_of o)
    ≡ reports_text event o.manager.copy o.manager.table.rows o.manager.reports ++ downs_text event next (packets_of o.sendings)
seen_text event next o =
    let told = flat_map (report_told o.manager) o.manager.reports in
    let sent = flat_map sends o.sendings in
    let taken = map ReplyTaken o.taken in
    let notices = map NoticeTaken o.noticed in
    ap (lines_text event next) (append_assoc (taken ++ notices) told sent ∙ append_assoc taken notices (told ++ sent))
    ∙ taken_then event next o.taken (notices ++ (told ++ sent))
    ∙ noticed_then event next o.noticed (told ++ sent)
    ∙ reports_then event next o.manager o.manager.reports sent
    ∙ ap (λ t. reports_text event o.manager.copy o.manager.table.rows o.manager.reports ++ t) (sendings_text event next o.sendings)

seen_held : (o : Outcome) (h : Held) → held_read (seen_of o) h ≡ with_downs (packets_of o.sendings) h
seen_held o h =
    let told = flat_map (report_told o.manager) o.manager.reports in
    let sent = flat_map sends o.sendings in
    let taken = map ReplyTaken o.taken in
    let notices = map NoticeTaken o.noticed in
    ap (λ hs. held_read hs h) (append_assoc (taken ++ notices) told sent ∙ append_assoc taken notices (told ++ sent))
    ∙ taken_held o.taken (notices ++ (told ++ sent)) h
    ∙ noticed_held o.noticed (told ++ sent) h
    ∙ reports_held o.manager o.manager.reports sent h
    ∙ sendings_held o.sendings h

-- reports are lines, and then packets go down
pub manager_followed : (o : Outcome) (w : Scene) (text : List ℕ) → shown (record { ends = manager_ends o w.ends; held = with_downs (packets_of o.sendings) w.held }) (text ++ (reports_text w.ends.event o.manager.copy o.manager.table.rows o.manager.reports ++ downs_text w.ends.event w.held.count (packets_of o.sendings))) ≡ followed (manager_did o w.ends) w text
manager_followed o w text =
    let event = w.ends.event in
    let next = w.held.count in
    let ended = flat_map (download_told (stage_in w.ends.manager)) o.manager.reports in
    let silent = downloads_silent event (next_after_all (seen_of o) next) (stage_in w.ends.manager) o.manager.reports in
    let lines = lines_both event next (seen_of o) ended ∙ ap (λ t. lines_text event next (seen_of o) ++ t) silent
    ∙ append-nil (lines_text event next (seen_of o)) ∙ seen_text event next o in
    let held = held_both (seen_of o) ended w.held ∙ downloads_held (stage_in w.ends.manager) o.manager.reports (held_read (seen_of o) w.held)
    ∙ seen_held o w.held in
    ap (λ h. shown (record { ends = manager_ends o w.ends; held = h }) (text ++ (reports_text event o.manager.copy o.manager.table.rows o.manager.reports ++ downs_text event next (packets_of o.sendings)))) (sym held)
    ∙ ap (λ t. shown (record { ends = manager_ends o w.ends; held = held_read (manager_did o w.ends).happenings w.held }) (text ++ t)) (sym lines)

-- what the manager did, seen after its reports were taken out and its packets sent
pub manager_shown : (o : Outcome) (w new : Scene) (m : State) (ps : List (List ℕ)) (before after : List ℕ) → m ≡ sound o.manager → ps ≡ packets_of o.sendings → new ≡ record { ends = record w.ends { manager = Some (record m.manager { reports = [] }) }; held = with_downs ps w.held } → after ≡ before ++ (reports_text w.ends.event m.manager.copy m.manager.table.rows m.manager.reports ++ downs_text w.ends.event w.held.count ps) → shown new after ≡ followed (manager_did o w.ends) w before
manager_shown o w new m ps before after m_is ps_is new_is after_is =
    let new' = new_is
    ∙ ap (λ (x : State). record { ends = record w.ends { manager = Some (record x.manager { reports = [] }) }; held = with_downs ps w.held }) m_is
    ∙ ap (λ qs. record { ends = manager_ends o w.ends; held = with_downs qs w.held }) ps_is in
    let after' = after_is
    ∙ ap (λ (x : State). before ++ (reports_text w.ends.event x.manager.copy x.manager.table.rows x.manager.reports ++ downs_text w.ends.event w.held.count ps)) m_is
    ∙ ap (λ qs. before ++ (reports_text w.ends.event o.manager.copy o.manager.table.rows o.manager.reports ++ downs_text w.ends.event w.held.count qs)) ps_is in
    ap (λ x. shown x after) new'
    ∙ ap (λ t. shown (record { ends = manager_ends o w.ends; held = with_downs (packets_of o.sendings) w.held }) t) after'
    ∙ manager_followed o w before

-- ---- what a world makes of it

abbrev pub scene : Ends → Held → Scene
scene e h = record { ends = e; held = h }

-- what is shown after a step follows it
pub follows_from : (s : Step) (e f : Ends) (old new : Seen) (before after : List ℕ) → EndsStand new f
    → shown (scene f new.held) after ≡ followed s (scene e old.held) before
    → Follows s e old new before after
follows_from s e f old new before after stands is = record {
  ends = subst (λ (x : Ends). EndsStand new x) (ap (λ (x : Shown). x.scene.ends) is) stands;
  held = ap (λ (x : Shown). x.scene.held) is;
  text = ap (λ (x : Shown). x.text) is;
}

pub follows_shown : (s : Step) (e : Ends) (old new : Seen) (before after : List ℕ)
    → Follows s e old new before after
    → shown (scene s.ends new.held) after ≡ followed s (scene e old.held) before
follows_shown s e old new before after f =
    ap (λ h. shown (scene s.ends h) after) f.held
    ∙ ap (λ t. shown (scene s.ends (held_read s.happenings old.held)) t) f.text

-- a world that is seen through its fields is the same
pub seen_as : (s : Step) (e : Ends) (v w new : Seen) (before after : List ℕ) → v ≡ w
    → Follows s e v new before after → Follows s e w new before after
seen_as s e v w new before after same f = subst (λ (x : Seen). Follows s e x new before after) same f

-- nothing happens but that the line isn't enabled
pub not_enabled_there : (e : Ends) (w : Seen) (before after : List ℕ) → EndsStand w e
    → after ≡ before ++ line_text w.event effect.NotEnabled → Follows (not_enabled e) e w w before after
not_enabled_there e w before after s is = record {
  ends = s;
  held = refl;
  text = is ∙ ap (λ n. before ++ line_text n effect.NotEnabled) s.event_is
      ∙ sym (one_line before (line_text e.event effect.NotEnabled));
}

pub still_there : (e : Ends) (w : Seen) (text : List ℕ) → EndsStand w e → Follows (still e) e w w text text
still_there e w text s = record { ends = s; held = refl; text = sym (append-nil text) }

-- a call of a manager that is off
pub manager_off : (step : Option Manager → Step) (v w : Seen) (before after : List ℕ) → v ≡ w → v.manager ≡ None
    → after ≡ before ++ line_text v.event effect.NotEnabled → (e : Ends) → EndsStand w e
    → step None ≡ not_enabled e → Follows (step e.manager) e w v before after
manager_off step v w before after same off is e s none =
    let at : EndsStand v e = subst (λ (x : Seen). EndsStand x e) (sym same) s in
    seen_as (step e.manager) e v w v before after same
    (subst (λ (t : Step). Follows t e v v before after) (sym none ∙ ap step (sym off ∙ at.manager_is))
    (not_enabled_there e v before after at is))

pub manager_there : (o : Outcome) (m' : State) (v new : Seen) (ps : List (List ℕ)) (before after : List ℕ) → m' ≡ sound o.manager → ps ≡ packets_of o.sendings
    → new ≡ record v { manager = Some (record m'.manager { reports = [] }); held = with_downs ps v.held }
    → after ≡ before ++ (reports_text v.event m'.manager.copy m'.manager.table.rows m'.manager.reports ++ downs_text v.event v.held.count ps)
    → (e : Ends) → EndsStand v e → Follows (manager_did o e) e v new before after
manager_there o m' v new ps before after m_is ps_is new_is after_is e s =
    follows_from (manager_did o e) e (manager_ends o e) v new before after
    (subst (λ (x : Seen). EndsStand x (manager_ends o e)) (sym new_is) (record {
      event_is = s.event_is;
      lives_is = s.lives_is;
      size_is = s.size_is;
      manager_is = ap (λ (x : State). Some (record x.manager { reports = [] })) m_is;
      unit = s.unit;
    }))
    (ap (λ (x : Seen). shown (scene (manager_ends o e) x.held) after) new_is
    ∙ manager_shown o (scene e v.held) (scene (manager_ends o e) (with_downs ps v.held)) m' ps before after m_is ps_is (ap (λ (x : State). scene (record e { manager = Some (record x.manager { reports = [] }) }) (with_downs ps v.held)) (sym m_is))
    (after_is ∙ ap (λ n. before ++ (reports_text n m'.manager.copy m'.manager.table.rows m'.manager.reports ++ downs_text n v.held.count ps)) s.event_is))

pub accepted_there : (call : Manager → Submission) (m m' : State) (v w new : Seen) (ps : List (List ℕ)) (before after : List ℕ) → v ≡ w → v.manager ≡ Some m.manager → (call m.manager).refusal ≡ None → m' ≡ sound (call m.manager).outcome.manager → ps ≡ packets_of (call m.manager).outcome.sendings
    → new ≡ record v { manager = Some (record m'.manager { reports = [] }); held = with_downs ps v.held }
    → after ≡ before ++ (reports_text v.event m'.manager.copy m'.manager.table.rows m'.manager.reports ++ downs_text v.event v.held.count ps)
    → (e : Ends) → EndsStand w e → Follows (submission call e.manager e) e w new before after
accepted_there call m m' v w new ps before after same on accepted m_is ps_is new_is after_is e s =
    let at : EndsStand v e = subst (λ (x : Seen). EndsStand x e) (sym same) s in
    seen_as (submission call e.manager e) e v w new before after same
    (subst (λ (t : Step). Follows t e v new before after)
    (ap (λ r. submission_by r (call m.manager).outcome e) (sym accepted) ∙ ap (λ o. submission call o e) (sym on ∙ at.manager_is))
    (manager_there (call m.manager).outcome m' v new ps before after m_is ps_is new_is after_is e at))

pub refused_there : (call : Manager → Submission) (m m' : State) (r : Refusal) (v w : Seen) (before after : List ℕ) → v ≡ w → v.manager ≡ Some m.manager → (call m.manager).refusal ≡ Some r → m' ≡ m → after ≡ before ++ line_text v.event (effect.Refused r)
    → (e : Ends) → EndsStand w e → Follows (submission call e.manager e) e w (record v { manager = Some m'.manager }) before after
refused_there call m m' r v w before after same on refused m_is after_is e s =
    let at : EndsStand v e = subst (λ (x : Seen). EndsStand x e) (sym same) s in
    let kept : record v { manager = Some m'.manager } ≡ v = ap (λ (x : State). record v { manager = Some x.manager }) m_is ∙ ap (λ o. record v { manager = o }) (sym on) in
    seen_as (submission call e.manager e) e v w (record v { manager = Some m'.manager }) before after same
    (subst (λ (x : Seen). Follows (submission call e.manager e) e v x before after) (sym kept)
    (subst (λ (t : Step). Follows t e v v before after)
    (ap (λ o. submission_by o (call m.manager).outcome e) (sym refused) ∙ ap (λ o. submission call o e) (sym on ∙ at.manager_is))
    (record {
      ends = at;
      held = refl;
      text = after_is ∙ ap (λ n. before ++ line_text n (effect.Refused r)) at.event_is ∙ sym (one_line before (line_text e.event (effect.Refused r)));
    })))

-- a packet that comes to the manager, and a second
pub received_there : (bytes : List ℕ) (m m' : State) (v w new : Seen) (ps : List (List ℕ)) (before after : List ℕ) → v ≡ w → v.manager ≡ Some m.manager → m' ≡ sound (after_packet bytes m.manager).manager → ps ≡ packets_of (after_packet bytes m.manager).sendings
    → new ≡ record v { manager = Some (record m'.manager { reports = [] }); held = with_downs ps v.held }
    → after ≡ before ++ (reports_text v.event m'.manager.copy m'.manager.table.rows m'.manager.reports ++ downs_text v.event v.held.count ps)
    → (e : Ends) → EndsStand w e → Follows (manager_got [] bytes e.manager e) e w new before after
received_there bytes m m' v w new ps before after same on m_is ps_is new_is after_is e s =
    let at : EndsStand v e = subst (λ (x : Seen). EndsStand x e) (sym same) s in
    seen_as (manager_got [] bytes e.manager e) e v w new before after same
    (subst (λ (o : Option Manager). Follows (manager_got [] bytes o e) e v new before after) (sym on ∙ at.manager_is)
    (manager_there (after_packet bytes m.manager) m' v new ps before after m_is ps_is new_is after_is e at))

pub ticked_there : (m m' : State) (v w new : Seen) (ps : List (List ℕ)) (before after : List ℕ) → v ≡ w → v.manager ≡ Some m.manager → m' ≡ sound (after_tick m.manager).manager → ps ≡ packets_of (after_tick m.manager).sendings
    → new ≡ record v { manager = Some (record m'.manager { reports = [] }); held = with_downs ps v.held }
    → after ≡ before ++ (reports_text v.event m'.manager.copy m'.manager.table.rows m'.manager.reports ++ downs_text v.event v.held.count ps)
    → (e : Ends) → EndsStand w e → Follows (manager_ticks e.manager e) e w new before after
ticked_there m m' v w new ps before after same on m_is ps_is new_is after_is e s =
    let at : EndsStand v e = subst (λ (x : Seen). EndsStand x e) (sym same) s in
    seen_as (manager_ticks e.manager e) e v w new before after same
    (subst (λ (o : Option Manager). Follows (manager_ticks o e) e v new before after) (sym on ∙ at.manager_is)
    (manager_there (after_tick m.manager) m' v new ps before after m_is ps_is new_is after_is e at))
