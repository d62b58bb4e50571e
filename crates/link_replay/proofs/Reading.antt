-- The readings of what happens: the link, what is held of it, the lines, and the number of the next packet.
use Rattle.std.proofs.Common.{◌≡◌, ℕ, List, [], ◌∷◌, ◌++◌, refl, sym, ◌∙◌, ap, append_assoc}
use Rattle.link_spec.specs.Link.{Link}
use Rattle.link_spec.specs.Held.{Held, held_of, held_sent}
use Rattle.link_laws.proofs.Held.{held_of-sent, held_of-delivered, held_of-emptied}
use Rattle.world_spec.specs.Happenings.{Happening, UnitStarted, ManagerStarted, PacketCame, PacketSent, on_link, link_read, on_held, held_read, next_after, next_after_all}
use Rattle.world_spec.specs.Trace.{happening_text, lines_text}

-- ---- one part after the other

pub link_both : (xs ys : List Happening) (l : Link) → link_read (xs ++ ys) l ≡ link_read ys (link_read xs l)
link_both [] ys l = refl
link_both (x ∷ xs) ys l = link_both xs ys (on_link x l)

pub held_both : (xs ys : List Happening) (h : Held) → held_read (xs ++ ys) h ≡ held_read ys (held_read xs h)
held_both [] ys h = refl
held_both (x ∷ xs) ys h = held_both xs ys (on_held x h)

pub lines_both : (event next : ℕ) (xs ys : List Happening) → lines_text event next (xs ++ ys) ≡ lines_text event next xs ++ lines_text event (next_after_all xs next) ys
lines_both event next [] ys = refl
lines_both event next (x ∷ xs) ys =
    let line = happening_text event next x in
    ap (λ t. line ++ t) (lines_both event (next_after x next) xs ys)
    ∙ sym (append_assoc line (lines_text event (next_after x next) xs) (lines_text event (next_after_all xs (next_after x next)) ys))

pub next_both : (xs ys : List Happening) (next : ℕ) → next_after_all (xs ++ ys) next ≡ next_after_all ys (next_after_all xs next)
next_both [] ys next = refl
next_both (x ∷ xs) ys next = next_both xs ys (next_after x next)

on_held_of : (x : Happening) (l : Link) → held_of (on_link x l) ≡ on_held x (held_of l)
on_held_of (UnitStarted life software) l = held_of-emptied l
on_held_of ManagerStarted l = held_of-emptied l
on_held_of (PacketCame number packet) l = held_of-delivered number packet l
on_held_of (PacketSent whose packet) l = held_of-sent packet l
on_held_of _ l = refl

-- what is held of the link is read as the link is
pub held_reads : (xs : List Happening) (l : Link) → held_of (link_read xs l) ≡ held_read xs (held_of l)
held_reads [] l = refl
held_reads (x ∷ xs) l = held_reads xs (on_link x l) ∙ ap (held_read xs) (on_held_of x l)

on_held_count : (x : Happening) (h : Held) → (on_held x h).count ≡ next_after x h.count
unfolding held_sent
on_held_count (UnitStarted life software) h = refl
on_held_count ManagerStarted h = refl
on_held_count (PacketCame number packet) h = refl
on_held_count (PacketSent whose packet) h = refl
on_held_count _ h = refl

pub held_count : (xs : List Happening) (h : Held) → (held_read xs h).count ≡ next_after_all xs h.count
held_count [] h = refl
held_count (x ∷ xs) h = held_count xs (on_held x h) ∙ ap (next_after_all xs) (on_held_count x h)
