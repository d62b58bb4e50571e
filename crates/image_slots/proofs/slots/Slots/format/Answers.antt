use Rattle.std.proofs.Common.{◌≡◌, ◌&&◌, ℕ, List, length, nat_le, true, false, inl, inr, refl, ap, ◌∙◌, arith}
use Rattle.std.proofs.lemmas.Bool.{and_from, le-leb}
use Rattle.slot_spec.specs.Layout.{entry, version}
use Rattle.slot_laws.proofs.Fill.{entry_is}
use Rattle.slot_laws.proofs.Rigs.{rig_shows}
use Rattle.image_slots.specs.Formats.{formatted_slots}
use Rattle.image_slots.proofs.Tests.{format_size}
use Rattle.image_slots.proofs.Formatting.{formatted_settled, formatted_leaves, some_of, whole_version, clear_calls, makes-none}
use Rattle.image_slots.proofs.slots.Slots.format.Goals.{then-size-eq0-via-then-size-eq0, then-size-eq0-via-else-size-eq0+then-size-from}
use Rattle.image_slots.proofs.slots.Slots.format.Goals as goal

-- the image doesn't fit: no call
pub returns-then-size-eq0-clause-rig : goal.returns-then-size-eq0-clause-rig
returns-then-size-eq0-clause-rig g c =
    let tests : (nat_le 1 (length c.args.image.now) && nat_le (length c.args.image.now) c.args.room) ≡ false = elim c.then-size-eq0.branch [
      | then-size-eq0-via-then-size-eq0 w ↦ format_size (length c.args.image.now) c.args.room (inl w.if-size-eq0.true)
      | then-size-eq0-via-else-size-eq0+then-size-from w ↦ format_size (length c.args.image.now) c.args.room (inr (omega (arith, w.from.ensures, w.if-size-from.true)))
    ] in
    rw tests (makes-none (g.D.Disk.rig c.args.disk))

pub returns-in-Ok-clause-rig : goal.returns-in-Ok-clause-rig
returns-in-Ok-clause-rig g c =
    let image = c.args.image.now in
    let tests : (nat_le 1 (length c.args.image.now) && nat_le (length c.args.image.now) c.args.room) ≡ true = and_from _ _ (le-leb 1 (length c.args.image.now) (omega arith)) (le-leb (length c.args.image.now) c.args.room (omega arith)) in
    let first : c.version_after-version.result ≡ version image = whole_version c.version_after-version.result image c.version_after-version.ensures.version in
    let is : c.entry_bytes-entry.result ≡ entry image = entry_is c.entry_bytes-entry.result (length image) c.crc_of-crc.result c.version_after-version.result image c.entry_bytes-entry.ensures.bytes refl c.crc_of-crc.ensures.value first in
    let made = rw is at c.in-Ok.ensures.rig in
    rw tests made

pub returns-in-Err-clause-rig : goal.returns-in-Err-clause-rig
returns-in-Err-clause-rig g c =
    let image = c.args.image.now in
    let tests : (nat_le 1 (length c.args.image.now) && nat_le (length c.args.image.now) c.args.room) ≡ true = and_from _ _ (le-leb 1 (length c.args.image.now) (omega arith)) (le-leb (length c.args.image.now) c.args.room (omega arith)) in
    let first : c.version_after-version.result ≡ version image = whole_version c.version_after-version.result image c.version_after-version.ensures.version in
    let is : c.entry_bytes-entry.result ≡ entry image = entry_is c.entry_bytes-entry.result (length image) c.crc_of-crc.result c.version_after-version.result image c.entry_bytes-entry.ensures.bytes refl c.crc_of-crc.ensures.value first in
    let made = rw is at c.in-Err.ensures.rig in
    rw tests made

pub returns-in-Ok-clause-settled : goal.returns-in-Ok-clause-settled
returns-in-Ok-clause-settled g c = λ told.
    let image = c.args.image.now in
    let was = some_of (g.D.Disk.seen c.args.disk) told in
    let first : c.version_after-version.result ≡ version image = whole_version c.version_after-version.result image c.version_after-version.ensures.version in
    let is : c.entry_bytes-entry.result ≡ entry image = entry_is c.entry_bytes-entry.result (length image) c.crc_of-crc.result c.version_after-version.result image c.entry_bytes-entry.ensures.bytes refl c.crc_of-crc.ensures.value first in
    rw (c.crc_of-crc.ensures.value, first) (formatted_settled g.D.Disk.seen g.D.Disk.may_leave c.lay_out.new.disk c.args.room image was.0 c.entry_bytes-entry.result (c.requires.some, c.requires.small) (omega arith, omega arith) is (c.in-Ok.ensures.formatted was.0 was.1))

pub returns-in-Ok-clause-length : goal.returns-in-Ok-clause-length
returns-in-Ok-clause-length g c = λ bytes reads image left.
    let laid = c.in-Ok.ensures.formatted bytes reads in
    ap (λ (l : List ℕ). length l) (laid.only image left) ∙ laid.formatted.body.long

pub returns-in-Ok-clause-outcome : goal.returns-in-Ok-clause-outcome
returns-in-Ok-clause-outcome g c = λ r is.
    let image = c.args.image.now in
    let made = c.in-Ok.ensures.rig r is in
    let reads = g.met.D.Disk.rig_reads c.args.disk r is in
    let first : c.version_after-version.result ≡ version image = whole_version c.version_after-version.result image c.version_after-version.ensures.version in
    let entered : c.entry_bytes-entry.result ≡ entry image = entry_is c.entry_bytes-entry.result (length image) c.crc_of-crc.result c.version_after-version.result image c.entry_bytes-entry.ensures.bytes refl c.crc_of-crc.ensures.value first in
    let settled = formatted_settled g.D.Disk.seen g.D.Disk.may_leave c.lay_out.new.disk c.args.room image r.bytes c.entry_bytes-entry.result (c.requires.some, c.requires.small) (omega arith, omega arith) entered (c.in-Ok.ensures.formatted r.bytes reads) in (
      _,
      made.0,
      formatted_leaves _ image r _ refl (clear_calls _ r)
          (rig_shows g.D.Disk.seen g.D.Disk.may_leave g.D.Disk.rig g.met.D.Disk.rig_reads g.met.D.Disk.cut_counts c.lay_out.new.disk _ (formatted_slots image) _ made.0 settled),
    )
