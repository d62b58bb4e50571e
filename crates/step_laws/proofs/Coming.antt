-- The packets that may come to the unit, each with the name of its command. They become fewer as
-- packets
-- are delivered and as an end starts, and one more as one is sent.
use Rattle.std.proofs.Common.{◌≡◌, ℕ, zero, suc, ◌+◌, ◌<◌, ◌≤◌, Bool, true, false, ◌&&◌, List, []}
use Rattle.std.proofs.Common.{◌∷◌, ◌++◌, length, slice_get, Option, Some, None, ◌⊎◌, inl, inr}
use Rattle.std.proofs.Common.{⊎_elim, refl, sym, ap, subst, ◌∙◌, arith, nat_le}
use Rattle.std.proofs.lemmas.Option.{same_Some, slice_get_within}
use Rattle.std.proofs.lemmas.Bool.Decides.{nat_tests}
use Rattle.omci_types.specs.declared.Priority.{Priority}
use Rattle.omci_types.specs.declared.Priority.TheVariants.{Low, High}
use Rattle.link_spec.specs.declared.Direction.{Direction}
use Rattle.link_spec.specs.declared.Direction.TheVariants.{Down, Up}
use Rattle.link_spec.specs.declared.TheConstants.{WINDOW}
use Rattle.link_spec.specs.declared.Way.{Way}
use Rattle.link_spec.specs.Link.{Sent, Ways, Link, lane_of, way_in, way_of, with_way, passed}
use Rattle.link_spec.specs.Link.{ways_past, ways_from, is_young, may_come, if_may_come, allowed_one}
use Rattle.link_spec.specs.Link.{allowed, count, sent_on, delivered_on, emptied}
use Rattle.world_spec.specs.History.{name_at}
use Rattle.moves_laws.proofs.Lists.{got}
use Rattle.resync_laws.proofs.Invariants.{AllSent}

-- ---- what may come

-- the packet of that number is there, and may come
pub record MayCome (i : ℕ) (s : Sent) (l : Link) : Type 0 where
  pub at : slice_get l.packets i ≡ Some s
  pub floor : (way_of s l.ways).floor ≤ i
  pub young : count l ≤ i + WINDOW

by_test : (b : Bool) (x s : Sent) → if_may_come b x ≡ Some s → (x ≡ s) × (b ≡ true)
by_test true x s e = (same_Some x s e, refl)
by_test false x s e = absurd (cc)

both : (floor i total : ℕ) → (nat_le floor i && is_young i total) ≡ true
    → (floor ≤ i) × (total ≤ i + WINDOW)
both floor i total e = (grind (arith, nat_tests), grind (arith, nat_tests))

may_at : (i : ℕ) (o : Option Sent) (l : Link) (s : Sent) → slice_get l.packets i ≡ o
    → allowed_one i o l.ways (count l) ≡ Some s → MayCome i s l
may_at i None l s e a = absurd (cc)
may_at i (Some x) l s e a =
    let k = by_test (may_come i (way_of x l.ways) (count l)) x s a in
    let p = both (way_of x l.ways).floor i (count l) k.1 in
    record {
      at = e ∙ ap (λ y. Some y) k.0;
      floor = subst (λ (y : Sent). (way_of y l.ways).floor ≤ i) k.0 p.0;
      young = p.1;
    }

pub may_of : (i : ℕ) (l : Link) (s : Sent) → allowed i l ≡ Some s → MayCome i s l
unfolding allowed
may_of i l s e = may_at i (slice_get l.packets i) l s refl e

tested : (floor i total : ℕ) → floor ≤ i → total ≤ i + WINDOW
    → (nat_le floor i && is_young i total) ≡ true
tested floor i total a b = grind (arith, nat_tests)

pub allowed_of : (i : ℕ) (l : Link) (s : Sent) → MayCome i s l → allowed i l ≡ Some s
unfolding allowed
allowed_of i l s m =
    ap (λ o. allowed_one i o l.ways (count l)) m.at
    ∙ ap (λ b. if_may_come b s) (tested (way_of s l.ways).floor i (count l) m.floor m.young)

-- ---- later

-- a delivery raises floors alone
rises : (d : Direction) (l : Priority) (e : Direction) (k : Priority) (w : Way) (ways : Ways)
    → (way_in d l ways).floor ≤ w.floor
    → (way_in e k ways).floor ≤ (way_in e k (with_way d l w ways)).floor
rises Down Low Down Low w ways h = h
rises Down Low Down High w ways h = omega arith
rises Down Low Up Low w ways h = omega arith
rises Down Low Up High w ways h = omega arith
rises Down High Down Low w ways h = omega arith
rises Down High Down High w ways h = h
rises Down High Up Low w ways h = omega arith
rises Down High Up High w ways h = omega arith
rises Up Low Down Low w ways h = omega arith
rises Up Low Down High w ways h = omega arith
rises Up Low Up Low w ways h = h
rises Up Low Up High w ways h = omega arith
rises Up High Down Low w ways h = omega arith
rises Up High Down High w ways h = omega arith
rises Up High Up Low w ways h = omega arith
rises Up High Up High w ways h = h

past_rises : (number : ℕ) (x s : Sent) (ways : Ways) → (way_of x ways).floor ≤ number
    → (way_of s ways).floor ≤ (way_of s (ways_past number x ways)).floor
unfolding ways_past
past_rises number x s ways h =
    rises x.direction (lane_of x.bytes) s.direction (lane_of s.bytes)
    (passed number (way_of x ways)) ways h

pub came_before : (number i : ℕ) (x s : Sent) (l : Link) → allowed number l ≡ Some x
    → allowed i (delivered_on number x l) ≡ Some s → allowed i l ≡ Some s
came_before number i x s l e a =
    let k = may_of number l x e in
    let m = may_of i (delivered_on number x l) s a in
    let r = past_rises number x s l.ways k.floor in
    let f = m.floor in
    allowed_of i l s (record { at = m.at; floor = omega (arith, r, f); young = m.young })

from_floor : (d : Direction) (l : Priority) (n : ℕ) → (way_in d l (ways_from n)).floor ≡ n
from_floor Down Low n = refl
from_floor Down High n = refl
from_floor Up Low n = refl
from_floor Up High n = refl

-- nothing that was sent before a start may come
pub none_come : {A : Type 0} (i : ℕ) (s : Sent) (l : Link) → allowed i (emptied l) ≡ Some s → A
none_come i s l a =
    let m = may_of i (emptied l) s a in
    let f = m.floor in
    let e = from_floor s.direction (lane_of s.bytes) (count l) in
    let w = slice_get_within l.packets i s m.at in
    absurd (omega (arith, f, e, w))

pub sent_before : (i : ℕ) (x s : Sent) (l : Link) → allowed i (sent_on x l) ≡ Some s
    → (allowed i l ≡ Some s) ⊎ ((i ≡ length l.packets) × (x ≡ s))
sent_before i x s l a =
    let m = may_of i (sent_on x l) s a in
    let f = m.floor in
    let y = m.young in
    let n = length_more l.packets x in
    ⊎_elim
    (λ e. inl (allowed_of i l s (record { at = e; floor = f; young = omega (arith, y, n) })))
    (λ e. inr e) (got l.packets x i s m.at)
  where
    length_more : {X : Type 0} (xs : List X) (x : X) → length (xs ++ x ∷ []) ≡ length xs + 1
    length_more [] x = refl
    length_more (y ∷ xs) x = let k = length_more xs x in omega (arith, k)

-- ---- all of them

-- of each packet that may come to the unit, with its command's name
abbrev pub Coming : (Sent → ℕ → Type 0) → Link → List ℕ → Type 0
Coming P link names =
    (i : ℕ) (s : Sent) → allowed i link ≡ Some s → s.direction ≡ Down → P s (name_at i names)

pub coming_map : (P Q : Sent → ℕ → Type 0) (link : Link) (names : List ℕ)
    → ((s : Sent) (name : ℕ) → P s name → Q s name) → Coming P link names → Coming Q link names
coming_map P Q link names f h = λ i s a d. f s (name_at i names) (h i s a d)

pub coming_past : (P : Sent → ℕ → Type 0) (number : ℕ) (x : Sent) (link : Link) (names : List ℕ)
    → allowed number link ≡ Some x → Coming P link names
    → Coming P (delivered_on number x link) names
coming_past P number x link names e h = λ i s a d. h i s (came_before number i x s link e a) d

pub coming_none : (P : Sent → ℕ → Type 0) (link : Link) (names : List ℕ)
    → Coming P (emptied link) names
coming_none P link names = λ i s a d. none_come i s link a

-- the names of those that stood there
name_still : (names : List ℕ) (name i : ℕ) → i < length names
    → name_at i (names ++ name ∷ []) ≡ name_at i names
name_still [] name i lt = absurd (omega (arith, lt))
name_still (n ∷ ns) name zero lt = refl
name_still (n ∷ ns) name (suc i) lt = name_still ns name i (omega (arith, lt))

name_added : (names : List ℕ) (name : ℕ) → name_at (length names) (names ++ name ∷ []) ≡ name
name_added [] name = refl
name_added (n ∷ ns) name = name_added ns name

pub coming_more : (P : Sent → ℕ → Type 0) (link : Link) (names : List ℕ) (x : Sent) (name : ℕ)
    → length link.packets ≡ length names → (x.direction ≡ Down → P x name)
    → Coming P link names → Coming P (sent_on x link) (names ++ name ∷ [])
coming_more P link names x name same p h = λ i s a d.
    ⊎_elim
    (λ (e : allowed i link ≡ Some s).
    let w = slice_get_within link.packets i s (may_of i link s e).at in
    subst (P s) (sym (name_still names name i (omega (arith, w, same)))) (h i s e d))
    (λ (e : (i ≡ length link.packets) × (x ≡ s)).
    subst (λ k. P s (name_at k (names ++ name ∷ []))) (sym (e.0 ∙ same))
    (subst (P s) (sym (name_added names name))
    (subst (λ y. P y name) e.1 (p (ap (λ (y : Sent). y.direction) e.1 ∙ d)))))
    (sent_before i x s link a)

-- as many packets as names
pub as_many : (P : Sent → ℕ → Type 0) (packets : List Sent) (names : List ℕ)
    → AllSent P packets names → length packets ≡ length names
as_many P [] [] h = refl
as_many P [] (n ∷ names) h = absurd h
as_many P (s ∷ packets) [] h = absurd h
as_many P (s ∷ packets) (n ∷ names) h = ap suc (as_many P packets names h.1)
