-- What a list at the end of contents has one after the other.
use Rattle.std.specs.Prelude.{ℕ, List}
use Rattle.extended_spec.specs.Layouts.{piece_size, row_size}
use Rattle.extended_contents.specs.declared.needs.Member.{Member}
use Rattle.extended_contents.specs.declared.needs.Member.TheVariants as member

-- so many bytes has the member that the bytes begin with
abbrev pub member_size : Member → List ℕ → ℕ
member_size member.Piece = piece_size
member_size member.Row = row_size
