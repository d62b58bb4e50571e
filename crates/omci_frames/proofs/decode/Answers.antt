use Rattle.std.proofs.Common.{Ok, ap, sym, ◌∙◌, arith}
use Rattle.omci_types.specs.declared.Frame.{Frame}
use Rattle.frame_laws.proofs.Sound.{IsSound-from_none}
use Rattle.frame_laws.proofs.Reading.{decoded-spelled, spelled-from_decoded}
use Rattle.frame_laws.proofs.Faults.{decoded-from_fault, decoded-from_none, decoded-device, decoded-short, decoded-trailer, decoded-check}
use Rattle.omci_frames.proofs.Decoding.{same_answer}
use Rattle.omci_frames.proofs.decode.Goals as goal

pub frame_at-requires : goal.frame_at-requires
frame_at-requires c = (IsSound-from_none c.args.bytes.now (sym c.in-None.ensures.value)).whole

pub returns-in-Some-clause-value : goal.returns-in-Some-clause-value
returns-in-Some-clause-value c = sym (decoded-from_fault c.args.bytes.now c.in-Some.fault (sym c.in-Some.ensures.value))

pub returns-in-None-clause-value : goal.returns-in-None-clause-value
returns-in-None-clause-value c = ap (λ (f : Frame). Ok f) c.frame_at.ensures.value ∙ sym (decoded-from_none c.args.bytes.now (sym c.in-None.ensures.value))

pub returns-in-None-clause-exact : goal.returns-in-None-clause-exact
returns-in-None-clause-exact c = spelled-from_decoded c.frame_at.result c.args.bytes.now (λ i. omega (arith, c.type_inv.bytes i)) (sym (returns-in-None-clause-value c))

pub returns-in-Some-clause-only : goal.returns-in-Some-clause-only
returns-in-Some-clause-only c = λ f fits same. returns-in-Some-clause-value c ∙ decoded-spelled f c.args.bytes.now fits same

pub returns-in-Some-clause-device : goal.returns-in-Some-clause-device
returns-in-Some-clause-device c = λ byte. same_answer _ _ _ _ (returns-in-Some-clause-value c) (decoded-device c.args.bytes.now byte)

pub returns-in-Some-clause-short : goal.returns-in-Some-clause-short
returns-in-Some-clause-short c = λ have. same_answer _ _ _ _ (returns-in-Some-clause-value c) (decoded-short c.args.bytes.now have)

pub returns-in-Some-clause-trailer : goal.returns-in-Some-clause-trailer
returns-in-Some-clause-trailer c = λ four. same_answer _ _ _ _ (returns-in-Some-clause-value c) (decoded-trailer c.args.bytes.now four)

pub returns-in-Some-clause-check : goal.returns-in-Some-clause-check
returns-in-Some-clause-check c = λ given computed. same_answer _ _ _ _ (returns-in-Some-clause-value c) (decoded-check c.args.bytes.now given computed)

pub returns-in-None-clause-only : goal.returns-in-None-clause-only
returns-in-None-clause-only c = λ f fits same. returns-in-None-clause-value c ∙ decoded-spelled f c.args.bytes.now fits same

pub returns-in-None-clause-device : goal.returns-in-None-clause-device
returns-in-None-clause-device c = λ byte. same_answer _ _ _ _ (returns-in-None-clause-value c) (decoded-device c.args.bytes.now byte)

pub returns-in-None-clause-short : goal.returns-in-None-clause-short
returns-in-None-clause-short c = λ have. same_answer _ _ _ _ (returns-in-None-clause-value c) (decoded-short c.args.bytes.now have)

pub returns-in-None-clause-trailer : goal.returns-in-None-clause-trailer
returns-in-None-clause-trailer c = λ four. same_answer _ _ _ _ (returns-in-None-clause-value c) (decoded-trailer c.args.bytes.now four)

pub returns-in-None-clause-check : goal.returns-in-None-clause-check
returns-in-None-clause-check c = λ given computed. same_answer _ _ _ _ (returns-in-None-clause-value c) (decoded-check c.args.bytes.now given computed)
