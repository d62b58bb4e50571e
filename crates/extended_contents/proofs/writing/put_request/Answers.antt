use Rattle.std.proofs.Common.{ℕ, List, [], ◌∷◌, ◌++◌}
use Rattle.std.specs.Int.{w16, w32, to_be_bytes}
use Rattle.extended_contents.proofs.Members.{then}
use Rattle.extended_contents.proofs.writing.put_request.Goals as goal

pub returns-in_ok-put_two-in-End : goal.returns-in_ok-put_two-in-End
returns-in_ok-put_two-in-End c =
    let before : List ℕ = c.args.out.now.items in
    let crc : List ℕ = to_be_bytes w32 c.in-End.crc in
    let size : List ℕ = to_be_bytes w32 c.in-End.size in
    let targets : List ℕ = c.in-End.targets ∷ [] in
    let target : List ℕ = to_be_bytes w16 c.in-End.target in
    let two = then before c.put_four-in-End.new.out.items c.put_four-in-End-2.new.out.items crc size c.in_ok-put_four-in-End.ensures.put c.in_ok-put_four-in-End-2.ensures.put in
    let three = then before c.put_four-in-End-2.new.out.items c.put_byte-in-End.new.out.items (crc ++ size) targets two c.in_ok-put_byte-in-End.ensures.put in
    let four = then before c.put_byte-in-End.new.out.items c.put_two-in-End.new.out.items (crc ++ size ++ targets) target three c.in_ok-put_two-in-End.ensures.put in
    rw c.in-End.is (record { put = four })
