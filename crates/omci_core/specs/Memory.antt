-- What a source and a sink in memory are, and what one call makes of each.
use Rattle.std.specs.Prelude.{◌==◌, ℕ, ◌+◌, ◌-◌, ◌^◌, Bool, ◌||◌, min, List, ◌++◌, length, drop, nat_le}
use Rattle.std.specs.List.{list_any}

-- one more, up to the last value of a `u64`
abbrev pub one_more : ℕ → ℕ
one_more n = min (n + 1) (2 ^ 64 - 1)

-- a source: the bytes left, the calls so far, the calls that are to fail, and the faults so far
pub record SourceState : Type 0 where
  pub left : List ℕ
  pub calls : ℕ
  pub fails : List ℕ
  pub faults : ℕ

-- a sink: the bytes written, how many it has room for, the calls so far, the calls that are to
-- fail, and the faults so far
pub record SinkState : Type 0 where
  pub written : List ℕ
  pub room : ℕ
  pub calls : ℕ
  pub fails : List ℕ
  pub faults : ℕ

-- whether the next call of a source fails: the list names it
abbrev pub source_fails : SourceState → Bool
source_fails s = list_any (λ call. call == one_more s.calls) s.fails

-- whether the next call of a sink fails: the list names it, or the sink is full
abbrev pub sink_fails : SinkState → Bool
sink_fails s = list_any (λ call. call == one_more s.calls) s.fails
    || nat_le s.room (length s.written)

-- a source after a call that took n bytes
abbrev pub source_taken : ℕ → SourceState → SourceState
source_taken n s = record {
  left = drop n s.left;
  calls = one_more s.calls;
  fails = s.fails;
  faults = s.faults;
}

-- a source after a call that failed
abbrev pub source_failed : SourceState → SourceState
source_failed s = record {
  left = s.left;
  calls = one_more s.calls;
  fails = s.fails;
  faults = one_more s.faults;
}

-- a sink after a call that wrote these bytes
abbrev pub sink_wrote : List ℕ → SinkState → SinkState
sink_wrote bytes s = record {
  written = s.written ++ bytes;
  room = s.room;
  calls = one_more s.calls;
  fails = s.fails;
  faults = s.faults;
}

-- a sink after a call that failed
abbrev pub sink_failed : SinkState → SinkState
sink_failed s = record {
  written = s.written;
  room = s.room;
  calls = one_more s.calls;
  fails = s.fails;
  faults = one_more s.faults;
}
