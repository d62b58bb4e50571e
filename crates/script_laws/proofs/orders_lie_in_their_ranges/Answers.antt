use Rattle.script_laws.proofs.Scripts.{orders_reading-Writes, orders_range}
use Rattle.script_laws.proofs.orders_lie_in_their_ranges.Goals as goal

pub returns : goal.returns
returns c =
    record { ranges = λ bytes orders h. orders_range bytes orders (orders_reading-Writes orders bytes h) }
