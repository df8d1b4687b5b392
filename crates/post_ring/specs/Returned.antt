-- What one end of a link holds: what came out of the ring, and the message that was given back.
use Rattle.std.specs.Prelude.{◌-◌, List, [], ◌∷◌, Option, None, Some, length, map, take}
use Rattle.join_base.specs.declared.message.Stamped.{Stamped}
use Rattle.rtrb.specs.Ring as ring
use Rattle.rtrb.specs.declared.consumer.Consumer.{Consumer}
use Rattle.post_ring.specs.declared.sealed.Sealed.{Sealed}

abbrev pub unsealed : Sealed → Stamped
unsealed s = s.stamped

-- every message that came out of the ring, the oldest first
module _ {A P : Type 0} where
  abbrev pub came_out : Consumer Sealed A P → List Stamped
  came_out c = map unsealed (ring.received c)

-- the message that was given back, if one was
abbrev pub returned : Option Sealed → List Stamped
returned None = []
returned (Some s) = s.stamped ∷ []

-- a list without its last message, where that was given back
abbrev pub kept_of : Option Sealed → List Stamped → List Stamped
kept_of None came = came
kept_of (Some s) came = take (length came - 1) came
