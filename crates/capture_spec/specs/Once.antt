-- What a capture without a breach says of the unit.
use Rattle.std.specs.Prelude.{◌≡◌, ℕ, ◌<◌, ◌≤◌, true, length, Some}
use Rattle.capture_spec.specs.Runs.{Lines, reply_at, answers, is_one_run, asked_before}

-- Two replies that belong to one run are the same: between two starts, no request was answered by
-- two different replies.
pub record AnsweredOnce (lines : Lines) : Type 0 where
  pub once : (tci first second asked again : ℕ) → first ≤ second → second < length lines
      → answers lines tci first ≡ true → answers lines tci second ≡ true
      → asked_before lines tci first ≡ Some asked → asked_before lines tci second ≡ Some again
      → is_one_run lines tci asked again ≡ true
      → reply_at lines first ≡ reply_at lines second
