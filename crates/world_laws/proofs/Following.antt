-- What happens is made up for by moves, one thing after the other.
use Rattle.std.proofs.Common.{◌≡◌, ℕ, List, [], ◌∷◌, ◌++◌, Option, Some, None, refl, sym, ap, subst, ◌∙◌, append_assoc}
use Rattle.std.specs.Prelude.{map}
use Rattle.std.specs.List.{flat_map}
use Rattle.link_spec.specs.Link.{Link}
use Rattle.upload_spec.specs.Pieces.{Copy}
use Rattle.manager_spec.specs.declared.Report.{Report}
use Rattle.manager_spec.specs.declared.Report.TheVariants as report
use Rattle.store_spec.specs.History.{StoreEntry}
use Rattle.manager_spec.specs.Manager.{Stage, EndingImage, Manager, Sending, Outcome, and_then}
use Rattle.unit_spec.specs.Onu.{Onu}
use Rattle.alarm_spec.specs.Alarms.{Alarm}
use Rattle.history_spec.specs.History.{Remark, Remarked, Synced, Audited, Stored, Downloaded}
use Rattle.moves_spec.specs.Channel.{Channel}
use Rattle.moves_spec.specs.Moves.{Write, after_moves}
use Rattle.world_spec.specs.Happenings.{Happening, ReplyTaken, NoticeTaken, ImageStored, link_read, on_link}
use Rattle.world_spec.specs.Ends.{sends, copy_told, report_told, image_told, download_told}
use Rattle.world_spec.specs.History.{Told, tell, tell_all}
use Rattle.world_laws.proofs.Likeness.{Like, Follows, after_both, SameLanes, like_same_lanes}

-- ---- lists of happenings

pub link_append : (hs gs : List Happening) (l : Link) → link_read (hs ++ gs) l
    ≡ link_read gs (link_read hs l)
link_append [] gs l = refl
link_append (h ∷ hs) gs l = link_append hs gs (on_link h l)

pub tell_append : (hs gs : List Happening) (t : Told) → tell_all (hs ++ gs) t
    ≡ tell_all gs (tell_all hs t)
tell_append [] gs t = refl
tell_append (h ∷ hs) gs t = tell_append hs gs (tell h t)

sends_append : (xs ys : List Sending) → flat_map sends (xs ++ ys)
    ≡ flat_map sends xs ++ flat_map sends ys
sends_append [] ys = refl
sends_append (x ∷ xs) ys = ap (λ l. sends x ++ l) (sends_append xs ys)
    ∙ sym (append_assoc (sends x) (flat_map sends xs) (flat_map sends ys))

-- ---- moves for them

-- moves make up for these happenings, after which the ends are so
abbrev pub Happens : List Happening → Link → ℕ → Option Onu → Option Manager → Told → Channel
    → Type 0
Happens hs link lives unit manager t p =
    Follows (link_read hs link) lives unit manager (tell_all hs t) p

-- some happenings, and then others
pub then_happens : (hs gs : List Happening) (link : Link) (lives lives_after : ℕ)
    (unit unit_after : Option Onu) (manager manager_after : Option Manager) (t : Told) (p : Channel)
    → Happens hs link lives unit manager t p
    → ((q : Channel) → Like (link_read hs link) lives unit manager (tell_all hs t) q
    → Happens gs (link_read hs link) lives_after unit_after manager_after (tell_all hs t) q)
    → Happens (hs ++ gs) link lives_after unit_after manager_after t p
then_happens hs gs link lives lives_after unit unit_after manager manager_after t p one two =
    let next = two (after_moves one.0 p) one.1 in (
      one.0 ++ next.0,
      subst
          (λ l. Like l lives_after unit_after manager_after (tell_all (hs ++ gs) t)
          (after_moves (one.0 ++ next.0) p)) (sym (link_append hs gs link))
          (subst
          (λ u. Like (link_read gs (link_read hs link)) lives_after unit_after manager_after u
          (after_moves (one.0 ++ next.0) p)) (sym (tell_append hs gs t))
          (subst
          (λ q. Like (link_read gs (link_read hs link)) lives_after unit_after manager_after
          (tell_all gs (tell_all hs t)) q) (sym (after_both one.0 next.0 p)) next.1)),
    )

-- ---- remarks and reports

-- something is remarked in the history
pub remark_follows : (r : Remark) (link : Link) (lives : ℕ) (unit : Option Onu)
    (manager : Option Manager) (t : Told) (p : Channel) → Like link lives unit manager t p
    → Follows link lives unit manager (record t { history = Remarked r ∷ t.history }) p
remark_follows r link lives unit manager t p h = (
  Write r ∷ [],
  record {
    packets = h.packets;
    ways = h.ways;
    lives_are = h.lives_are;
    drawn = h.drawn;
    history = ap (λ x. Remarked r ∷ x) h.history;
    unit_is = h.unit_is;
    manager_is = h.manager_is;
  },
)

copy_follows : (copy : Option Copy) (link : Link) (lives : ℕ) (unit : Option Onu)
    (manager : Option Manager) (t : Told) (p : Channel) → Like link lives unit manager t p
    → Happens (copy_told copy) link lives unit manager t p
copy_follows (Some copy) link lives unit manager t p h =
    remark_follows (Synced t.asking copy) link lives unit manager t p h
copy_follows None link lives unit manager t p h = ([], h)

report_follows : (r : Report) (m : Manager) (link : Link) (lives : ℕ) (unit : Option Onu)
    (manager : Option Manager) (t : Told) (p : Channel) → Like link lives unit manager t p
    → Happens (report_told m r) link lives unit manager t p
report_follows (report.Synced entities counter) m link lives unit manager t p h =
    copy_follows m.copy link lives unit manager t p h
report_follows (report.Audited rows) m link lives unit manager t p h =
    remark_follows (Audited t.asking m.table.rows t.notices) link lives unit manager t p h
report_follows _ m link lives unit manager t p h = ([], h)

-- reports, each with the copy or table that it tells
pub reports_follow : (rs : List Report) (m : Manager) (link : Link) (lives : ℕ)
    (unit : Option Onu) (manager : Option Manager) (t : Told) (p : Channel)
    → Like link lives unit manager t p
    → Happens (flat_map (report_told m) rs) link lives unit manager t p
reports_follow [] m link lives unit manager t p h = ([], h)
reports_follow (r ∷ rs) m link lives unit manager t p h =
    then_happens (report_told m r) (flat_map (report_told m) rs) link lives lives unit unit manager
    manager t p (report_follows r m link lives unit manager t p h)
    (λ q k. reports_follow rs m (link_read (report_told m r) link) lives unit manager
    (tell_all (report_told m r) t) q k)

-- ---- what the manager does

-- what an outcome sends is moves, whatever happened before
abbrev pub OutcomeFollows : Manager → Outcome → Type 0
OutcomeFollows m o = (link : Link) (lives : ℕ) (unit : Option Onu) (t : Told) (p : Channel)
    → Like link lives unit (Some m) t p
    → Happens (flat_map sends o.sendings) link lives unit (Some o.manager) t p

-- nothing is sent, and the lanes are left alone
pub sends_none : (m : Manager) (o : Outcome) → SameLanes m o.manager → o.sendings ≡ []
    → OutcomeFollows m o
sends_none m o s e = λ link lives unit t p h.
    subst (λ xs. Happens (flat_map sends xs) link lives unit (Some o.manager) t p) (sym e)
    ([], like_same_lanes link lives unit m o.manager t p s h)

-- what isn't a lane may change before
pub from_same : (m n : Manager) (o : Outcome) → SameLanes m n → OutcomeFollows n o
    → OutcomeFollows m o
from_same m n o s f = λ link lives unit t p h. f link lives unit t p
    (like_same_lanes link lives unit m n t p s h)

pub both_follow : (m : Manager) (a : Outcome) (f : Manager → Outcome) → OutcomeFollows m a
    → OutcomeFollows a.manager (f a.manager) → OutcomeFollows m (and_then a f)
both_follow m a f one two = λ link lives unit t p h.
    subst (λ hs. Happens hs link lives unit (Some (f a.manager).manager) t p)
    (sym (sends_append a.sendings (f a.manager).sendings))
    (then_happens (flat_map sends a.sendings) (flat_map sends (f a.manager).sendings) link lives
    lives unit unit (Some a.manager) (Some (f a.manager).manager) t p (one link lives unit t p h)
    (λ q k. two (link_read (flat_map sends a.sendings) link) lives unit
    (tell_all (flat_map sends a.sendings) t) q k))

-- the reports that were taken out don't matter
cleared : (o : Manager) (link : Link) (lives : ℕ) (unit : Option Onu) (t : Told) (p : Channel)
    → Follows link lives unit (Some o) t p
    → Follows link lives unit (Some (record o { reports = [] })) t p
cleared o link lives unit t p f = (
  f.0,
  like_same_lanes link lives unit o (record o { reports = [] }) t (after_moves f.0 p)
      (record { low = refl; high = refl }) f.1,
)

reported_sends : (m : Manager) (o : Outcome) (link : Link) (lives : ℕ) (unit : Option Onu)
    (t : Told) (p : Channel) → OutcomeFollows m o → Like link lives unit (Some m) t p
    → Happens (flat_map (report_told o.manager) o.manager.reports ++ flat_map sends o.sendings)
    link lives unit (Some (record o.manager { reports = [] })) t p
reported_sends m o link lives unit t p f h =
    then_happens (flat_map (report_told o.manager) o.manager.reports)
    (flat_map sends o.sendings) link lives lives unit unit (Some m)
    (Some (record o.manager { reports = [] })) t p
    (reports_follow o.manager.reports o.manager link lives unit (Some m) t p h)
    (λ q k. cleared o.manager _ lives unit _ q (f _ lives unit _ q k))

-- ---- notices

-- nothing of the history asks how many notices were counted
like_counting : (notices : List Alarm) (link : Link) (lives : ℕ) (unit : Option Onu)
    (manager : Option Manager) (t : Told) (p : Channel) → Like link lives unit manager t p
    → Like link lives unit manager (record t { notices = notices }) p
like_counting notices link lives unit manager t p h = record {
  packets = h.packets;
  ways = h.ways;
  lives_are = h.lives_are;
  drawn = h.drawn;
  history = h.history;
  unit_is = h.unit_is;
  manager_is = h.manager_is;
}

-- notices that the manager takes are no moves
notices_follow : (ns : List Alarm) (link : Link) (lives : ℕ) (unit : Option Onu)
    (manager : Option Manager) (t : Told) (p : Channel) → Like link lives unit manager t p
    → Happens (map NoticeTaken ns) link lives unit manager t p
notices_follow [] link lives unit manager t p h = ([], h)
notices_follow (a ∷ ns) link lives unit manager t p h =
    notices_follow ns link lives unit manager (record t { notices = t.notices ++ a ∷ [] }) p
    (like_counting (t.notices ++ a ∷ []) link lives unit manager t p h)

-- what happens with an outcome after the replies that were taken
abbrev pub rest_of : Outcome → List Happening
rest_of o =
    map NoticeTaken o.noticed
    ++ (flat_map (report_told o.manager) o.manager.reports ++ flat_map sends o.sendings)

noticed_sends : (m : Manager) (o : Outcome) (link : Link) (lives : ℕ) (unit : Option Onu)
    (t : Told) (p : Channel) → OutcomeFollows m o → Like link lives unit (Some m) t p
    → Happens (rest_of o) link lives unit (Some (record o.manager { reports = [] })) t p
noticed_sends m o link lives unit t p f h =
    then_happens (map NoticeTaken o.noticed)
    (flat_map (report_told o.manager) o.manager.reports ++ flat_map sends o.sendings) link lives
    lives unit unit (Some m) (Some (record o.manager { reports = [] })) t p
    (notices_follow o.noticed link lives unit (Some m) t p h)
    (λ q k. reported_sends m o _ lives unit _ q f k)

-- what happens with an outcome, but for a download that has ended
abbrev pub deeds_of : Outcome → List Happening
deeds_of o =
    map ReplyTaken o.taken
    ++ map NoticeTaken o.noticed
    ++ flat_map (report_told o.manager) o.manager.reports
    ++ flat_map sends o.sendings

pub replies_and_rest : (o : Outcome) → deeds_of o ≡ map ReplyTaken o.taken ++ rest_of o
replies_and_rest o =
    append_assoc (map ReplyTaken o.taken ++ map NoticeTaken o.noticed)
    (flat_map (report_told o.manager) o.manager.reports) (flat_map sends o.sendings)
    ∙ append_assoc (map ReplyTaken o.taken) (map NoticeTaken o.noticed)
    (flat_map (report_told o.manager) o.manager.reports ++ flat_map sends o.sendings)

-- the same once the replies that were taken are told
deeds_happen : (first : List Happening) (m : Manager) (o : Outcome) (link : Link)
    (lives : ℕ) (unit : Option Onu) (t : Told) (p : Channel)
    → Happens (first ++ map ReplyTaken o.taken) link lives unit (Some m) t p → OutcomeFollows m o
    → Happens (first ++ deeds_of o) link lives unit (Some (record o.manager { reports = [] })) t p
deeds_happen first m o link lives unit t p one f =
    subst (λ hs. Happens hs link lives unit (Some (record o.manager { reports = [] })) t p)
    (append_assoc first (map ReplyTaken o.taken) (rest_of o)
    ∙ ap (λ hs. first ++ hs) (sym (replies_and_rest o)))
    (then_happens (first ++ map ReplyTaken o.taken) (rest_of o) link lives lives unit unit (Some m)
    (Some (record o.manager { reports = [] })) t p one
    (λ q k. noticed_sends m o _ lives unit _ q f k))

-- ---- a download has ended

image_follows : (before : Option Stage) (slot : ℕ) (link : Link) (lives : ℕ) (unit : Option Onu)
    (manager : Option Manager) (t : Told) (p : Channel) → Like link lives unit manager t p
    → Happens (image_told before slot) link lives unit manager t p
image_follows None slot link lives unit manager t p h = ([], h)
image_follows (Some (EndingImage order image busy)) slot link lives unit manager t p h =
    remark_follows (Downloaded slot image) link lives unit manager t p h
image_follows (Some _) slot link lives unit manager t p h = ([], h)

download_follows : (before : Option Stage) (r : Report) (link : Link) (lives : ℕ)
    (unit : Option Onu) (manager : Option Manager) (t : Told) (p : Channel)
    → Like link lives unit manager t p
    → Happens (download_told before r) link lives unit manager t p
download_follows before (report.ImageDone slot) link lives unit manager t p h =
    image_follows before slot link lives unit manager t p h
download_follows before _ link lives unit manager t p h = ([], h)

downloads_follow : (before : Option Stage) (rs : List Report) (link : Link) (lives : ℕ)
    (unit : Option Onu) (manager : Option Manager) (t : Told) (p : Channel)
    → Like link lives unit manager t p
    → Happens (flat_map (download_told before) rs) link lives unit manager t p
downloads_follow before [] link lives unit manager t p h = ([], h)
downloads_follow before (r ∷ rs) link lives unit manager t p h =
    then_happens (download_told before r) (flat_map (download_told before) rs) link lives lives
    unit unit manager manager t p (download_follows before r link lives unit manager t p h)
    (λ q k. downloads_follow before rs _ lives unit manager _ q k)

-- what happens with an outcome of a manager whose job was in this stage
abbrev pub all_deeds : Option Stage → Outcome → List Happening
all_deeds before o = deeds_of o ++ flat_map (download_told before) o.manager.reports

-- with what happened before, once the replies that were taken are told
pub outcome_happens : (first : List Happening) (before : Option Stage) (m : Manager) (o : Outcome)
    (link : Link) (lives : ℕ) (unit : Option Onu) (t : Told) (p : Channel)
    → Happens (first ++ map ReplyTaken o.taken) link lives unit (Some m) t p → OutcomeFollows m o
    → Happens (first ++ all_deeds before o) link lives unit
    (Some (record o.manager { reports = [] })) t p
outcome_happens first before m o link lives unit t p one f =
    subst (λ hs. Happens hs link lives unit (Some n) t p)
    (append_assoc first (deeds_of o) (flat_map (download_told before) o.manager.reports))
    (then_happens (first ++ deeds_of o) (flat_map (download_told before) o.manager.reports) link
    lives lives unit unit (Some n) (Some n) t p (deeds_happen first m o link lives unit t p one f)
    (λ q k. downloads_follow before o.manager.reports _ lives unit (Some n) _ q k))
  where
    n : Manager
    n = record o.manager { reports = [] }

-- ---- what the unit's store has for the history

pub entries_follow : (entries : List StoreEntry) (link : Link) (lives : ℕ) (unit : Option Onu)
    (manager : Option Manager) (t : Told) (p : Channel) → Like link lives unit manager t p
    → Happens (map ImageStored entries) link lives unit manager t p
entries_follow [] link lives unit manager t p h = ([], h)
entries_follow (e ∷ rest) link lives unit manager t p h =
    then_happens (ImageStored e ∷ []) (map ImageStored rest) link lives lives unit unit manager
    manager t p (remark_follows (Stored e) link lives unit manager t p h)
    (λ q k. entries_follow rest link lives unit manager (tell (ImageStored e) t) q k)
