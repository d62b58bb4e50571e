-- What a unit's download has of an image that is on its way to it.
use Rattle.std.specs.Prelude.{◌≡◌, ℕ, ◌+◌, ◌-◌, ◌*◌, Bool, true, List, length, take, slice_get}
use Rattle.std.specs.Prelude.{Some, IfSome}
use Rattle.std.specs.List.{concat}
use Rattle.window_spec.specs.declared.TheConstants.{SECTION_BYTES}
use Rattle.window_spec.specs.Incoming.{no_window}
use Rattle.window_spec.specs.Outgoing.{Outgoing, window_count, window_sections}
use Rattle.store_spec.specs.State.{Loading}
use Rattle.store_spec.specs.Deeds.{Deed, Ignore, Refuse, RefuseWindow, GiveUp, Begin, Hold, Put}
use Rattle.store_spec.specs.Deeds.{Seal, Activate, Commit, Recommit}
use Rattle.store_spec.specs.Effects.{download_after}

-- It has the windows before the one that is sent. What is held are the first sections of that one.
pub record HasBefore (o : Outgoing) (l : Loading) : Type 0 where
  pub size : l.size ≡ length o.image
  pub put : l.put ≡ take (SECTION_BYTES * o.first) o.image
  pub held : l.window.bytes ≡ take (length o.image - SECTION_BYTES * o.first)
      (concat (take l.window.sections (window_sections o)))

-- It has that window too, and nothing is held.
pub record HasAll (o : Outgoing) (l : Loading) : Type 0 where
  pub size : l.size ≡ length o.image
  pub put : l.put ≡ take (SECTION_BYTES * (o.first + window_count o)) o.image
  pub none : l.window ≡ no_window

-- a section of the window that is sent, which ends it where it has AR
pub record IsSectionOf (o : Outgoing) (number : ℕ) (bytes : List ℕ) (last : Bool) : Type 0 where
  pub there : slice_get (window_sections o) number ≡ Some bytes
  pub ends : last ≡ true → window_count o ≡ number + 1

-- what a deed that such a section comes to makes of the download: where it is put, it has the
-- window
abbrev pub Carried : Outgoing → Deed → Loading → Type 0
Carried o (Put bytes) l = IfSome (download_after (Put bytes) (Some l)) (HasAll o)
Carried o Ignore l = HasBefore o l
Carried o (Refuse code) l = HasBefore o l
Carried o (RefuseWindow code) l =
    IfSome (download_after (RefuseWindow code) (Some l)) (HasBefore o)
Carried o (Hold window) l = IfSome (download_after (Hold window) (Some l)) (HasBefore o)
Carried o (GiveUp code) l = ⊥
Carried o (Begin slot size granted) l = ⊥
Carried o (Seal slot image) l = ⊥
Carried o (Activate leaves) l = ⊥
Carried o (Commit slot) l = ⊥
Carried o (Recommit slot) l = ⊥
