-- What contracts read of monitors.
use Rattle.live_board.specs.declared.monitor.Monitor.{Monitor}

-- what the monitor looks through
abbrev pub glass_of : {W : Type 0} → Monitor W → W
glass_of m = m.glass
