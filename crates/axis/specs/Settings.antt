-- The settings, each in its range.
use Rattle.std.specs.Prelude.{◌≤◌}
use Rattle.axis.specs.declared.settings.Settings.TheInside.{Inside}

pub record InRange (s : Inside) : Type 0 where
  pub starts : 19 ≤ s.initial
  pub start : s.initial ≤ 25000
  pub slews : 19 ≤ s.slew
  pub top : s.slew ≤ 25000
  pub divides : 1 ≤ s.divisor
