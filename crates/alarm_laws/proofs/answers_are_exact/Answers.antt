use Rattle.std.proofs.Common.{length}
use Rattle.alarm_spec.specs.Table.{is_gathering, wanted}
use Rattle.alarm_laws.proofs.Answers.{answer_tested, next_is_no_repeat, repeat_says, repeat_is, no_repeat_says, no_repeat_is, right_says, right_is, wrong_says, wrong_is, full_says, full_is, room_says, room_is}
use Rattle.alarm_laws.proofs.answers_are_exact.Goals as goal

pub returns-clause-unaudited : goal.returns-clause-unaudited
returns-clause-unaudited c number t = (answer_tested number t).unaudited

pub returns-clause-repeat : goal.returns-clause-repeat
returns-clause-repeat c number t =
    let test = (answer_tested number t).repeat in (
      λ e. (let p = test.0 e in (p.0, (repeat_says number t.last p.1).0, (repeat_says number t.last p.1).1)),
      λ h. test.1 (h.0, repeat_is number t.last h.1 h.2),
    )

pub returns-clause-gap : goal.returns-clause-gap
returns-clause-gap c number want have t =
    let test = (answer_tested number t).gap want have in (
      λ e. (let p = test.0 e in (p.0, no_repeat_says number t.last p.1, wrong_says number (wanted t) p.2, p.3, p.4)),
      λ h. test.1 (h.0, no_repeat_is number t.last h.1, wrong_is number (wanted t) h.2, h.3, h.4),
    )

pub returns-clause-overflow : goal.returns-clause-overflow
returns-clause-overflow c number t =
    let test = (answer_tested number t).overflow in (
      λ e. (let p = test.0 e in (p.0, right_says number (wanted t) p.2, (full_says (is_gathering t) (length t.waiting) p.3).0, (full_says (is_gathering t) (length t.waiting) p.3).1)),
      λ h. test.1 (h.0, next_is_no_repeat number t.last h.1, right_is number (wanted t) h.1, full_is (is_gathering t) (length t.waiting) h.2 h.3),
    )

pub returns-clause-taken : goal.returns-clause-taken
returns-clause-taken c number t =
    let test = (answer_tested number t).taken in (
      λ e. (let p = test.0 e in (p.0, right_says number (wanted t) p.2, room_says (is_gathering t) (length t.waiting) p.3)),
      λ h. test.1 (h.0, next_is_no_repeat number t.last h.1, right_is number (wanted t) h.1, room_is (is_gathering t) (length t.waiting) h.2),
    )
