-- Which of the objects of the outside a command calls, and which command gives a world.
use Rattle.std.specs.Prelude.{Bool, true, false, Option, Some, None}
use Rattle.command_lines.specs.declared.Command.{Command}
use Rattle.command_lines.specs.declared.Command.TheVariants.{Replay, Show, Check, Flash, Drill, Olt, Unit}

-- whether the command reads the source
abbrev pub reads_source : Option Command → Bool
reads_source None = false
reads_source (Some (Drill seed)) = false
reads_source (Some (Unit turns)) = false
reads_source (Some _) = true

-- whether it writes to the sink
abbrev pub writes_sink : Option Command → Bool
writes_sink None = false
writes_sink (Some Flash) = false
writes_sink (Some _) = true

-- whether it calls the disk
abbrev pub calls_disk : Option Command → Bool
calls_disk (Some Flash) = true
calls_disk (Some (Unit turns)) = true
calls_disk _ = false

-- whether it calls the link
abbrev pub calls_link : Option Command → Bool
calls_link (Some (Olt turns)) = true
calls_link (Some (Unit turns)) = true
calls_link _ = false

-- whether it runs both ends over a link of their own, and so gives their world where it is done
abbrev pub runs_world : Option Command → Bool
runs_world (Some Replay) = true
runs_world (Some (Drill seed)) = true
runs_world _ = false
