-- A list may be sent to another thread, and threads may share it.
use denote.Param.Send.{IsSend, IsSync, sendable}
use Rattle.std.proofs.Crossing.{crosses}
use Rattle.tiered_vec.specs.contracts.block.Block as Block
use Rattle.tiered_vec.specs.contracts.TieredVec as TieredVec

block-send : IsSend Block.the_row
block-send = search (sendable, crosses) depth 40

block-sync : IsSync Block.the_row
block-sync = search (sendable, crosses) depth 40

pub tiered-send : IsSend TieredVec.the_row
tiered-send = search (sendable, crosses, block-send) depth 40

pub tiered-sync : IsSync TieredVec.the_row
tiered-sync = search (sendable, crosses, block-sync) depth 40
