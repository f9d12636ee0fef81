-- A motion on its way: some steps to go, its speed between those of its settings, its sum below that at which a step is due.
use Rattle.std.specs.Prelude.{◌*◌, ◌<◌, ◌≤◌}
use Rattle.machine.specs.Setups.{start_speed}
use Rattle.axis.specs.declared.motion.Motion.TheInside.{Inside}

pub record OnItsWay (m : Inside) : Type 0 where
  pub some : 0 < m.left
  pub few : m.left < 16777216
  pub slow : start_speed m.settings ≤ m.speed
  pub fast : m.speed ≤ m.settings.slew
  pub part : m.sum < 25000 * m.settings.divisor
