-- What a link is once the packet that it lent is given back.
use Rattle.std.specs.Prelude.{◌≡◌, ℕ, ⊤}
use Rattle.std.specs.Borrow.{Fml, MutBor, follows_so}
use mathlib.Core.Option.{none}
use Rattle.link_spec.specs.Link.{Link, link_after}
use Rattle.link_spec.specs.Held.{Held, held_of, held_after}
use Rattle.link_lanes.specs.contracts.lanes.Lanes.{the_row}

-- what is held after the delivery of that number, of each link that stood behind what was held
pub record IsDelivered (number : ℕ) (earlier later : Held) : Type 0 where
  pub held : later ≡ held_after number earlier
  pub stands : (l : Link) → earlier ≡ held_of l → later ≡ held_of (link_after number l)

abbrev pub EndsDelivered : MutBor Held → ℕ → Fml
EndsDelivered lanes number = follows_so the_row the_row lanes.ghost_name none (λ _ _. ⊤) (λ later.
    IsDelivered number lanes.now later)
