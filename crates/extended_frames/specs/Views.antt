-- The frames and answers of the code as the definitions have them.
use Rattle.std.specs.Prelude.{Bool, true, false}
use Rattle.extended_frames.specs.declared.any_frame.AnyFrame.{AnyFrame}
use Rattle.extended_frames.specs.declared.any_frame.AnyFrame.TheVariants as frames
use Rattle.extended_frames.specs.declared.stream.TakenAny.{TakenAny}
use Rattle.extended_frames.specs.declared.stream.TakenAny.TheVariants as taken
use Rattle.extended_frames.specs.declared.front.Shown.{Shown}
use Rattle.extended_frames.specs.declared.front.Shown.TheVariants as shown
use Rattle.stream_spec.specs.Streams.{Front, Whole, Open, Faulty}
use Rattle.extended_spec.specs.declared.AnyFault.{AnyFault}
use Rattle.extended_spec.specs.Frames.{Any, Baseline, Extended}
use Rattle.extended_spec.specs.Streams.{TakenView, GivenFrame, WantsMore, ShowsFault}

abbrev pub any_in : AnyFrame → Any
any_in (frames.Short frame) = Baseline frame
any_in (frames.Long frame) = Extended frame

abbrev pub view_of : TakenAny → TakenView
view_of (taken.Frame frame) = GivenFrame (any_in frame)
view_of taken.More = WantsMore
view_of (taken.Fault at fault) = ShowsFault at fault

-- what bytes show, without the frame
abbrev pub shown_by : Front Any AnyFault → Shown
shown_by (Whole frame count) = shown.Whole count
shown_by Open = shown.Open
shown_by (Faulty fault) = shown.Faulty fault

abbrev pub is_shown_faulty : Shown → Bool
is_shown_faulty (shown.Whole count) = false
is_shown_faulty shown.Open = false
is_shown_faulty (shown.Faulty fault) = true
