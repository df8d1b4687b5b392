-- Helpers and posters may be sent to another thread, and threads may share a pool: type by type, from what holds itself
-- upwards. `search` finds each step, and not the whole.
use denote.RattleType.{RattleType}
use denote.Param.Send.{IsSend, IsSync, sendable, view_send, recorded_send}
use denote.Struct.Field.{Field, row_field, u32-field, u64-field}
use Rattle.std.proofs.Common.{List, [], ◌∷◌}
use denote.Hole.{as_row}
use denote.Hole.Layer.{enum_layer, struct_layer}
use denote.Hole.FixLaws.{layer_row}
use Rattle.join_base.specs.contracts.message.Relation as Relation
use denote.Struct.Declared as S
use Rattle.std.specs.contracts.option.Option as Option
use Rattle.pattern_core.specs.contracts.candidate.Candidate as Candidate
use Rattle.match_tree.specs.contracts.pending.Pending as Pending
use Rattle.std.specs.contracts.boxed.Box as Box
use denote.Hole.Fix.{holes}
use denote.Hole.FixSend.{Sends, fix_send}
use Rattle.guard_eval.specs.contracts.term.Operand as Operand
use Rattle.guard_eval.specs.declared.conjunct.Atom.TheBlock as block
use denote.Param.SendFields.{variants_send, declared_send, declared_sync, as_row_send}
use Rattle.std.proofs.Crossing.{crosses, frees, send as heap-send}
use Rattle.std.proofs.MapsCrossingOver.{BTreeSet-send}
use denote.Model.Goals.{send, one_law, tied_goals, has_of, part_has, All}
use denote.Model.Cut.{split_one}
use denote.Model.Local.{Parts, rows}
use Rattle.tree_rows.specs.declared.node.Node.TheDeep.{the_members, member-Node, member-Row, split-Shape, join-Shape, joins-Shape, split-Node, join-Node, joins-Node, split-Nodes, join-Nodes, joins-Nodes, split-Row, join-Row, joins-Row}
use Rattle.tree_rows.specs.contracts.node.Node.TheKnot as knot
use Rattle.tiered_vec.proofs.CrossLemmas.{tiered-send}
use Rattle.tiered_vec.specs.contracts.TieredVec as TieredVec
use Rattle.tree_rows.specs.contracts.row.Row as Row
use Rattle.std.specs.contracts.vec.Vec as Vec
use Rattle.std.specs.contracts.collections.VecDeque as VecDeque
use Rattle.std.specs.contracts.collections.BTreeSet as BTreeSet
use Rattle.std.specs.declared.cmp.Ord as ord
use Rattle.std.specs.declared.cmp.PartialEq as eq
use Rattle.std.specs.declared.cmp.PartialOrd as partial
use Rattle.std.specs.contracts.alloc.Global as Global
use Rattle.std.specs.contracts.impls.GlobalAllocator.TheImpl.{ghosts}
use Rattle.guard_eval.specs.contracts.conjunct.Atom as Atom
use Rattle.guard_eval.specs.contracts.conjunct.Conjunct as Conjunct
use Rattle.guard_eval.specs.contracts.conjunct.ConjunctList as ConjunctList
use Rattle.pattern_core.specs.contracts.definition.Definition as Definition
use Rattle.join_base.specs.contracts.message.Message as Message
use Rattle.join_base.specs.contracts.message.Value as Value
use Rattle.join_base.specs.contracts.message.Stamped as Stamped
use Rattle.script_types.specs.contracts.plan.Statement as Statement
use Rattle.script_types.specs.contracts.plan.Rule as Rule
use Rattle.row_screens.specs.contracts.ties.Ties as Ties
use Rattle.match_tree.specs.contracts.tree.MatchTree as MatchTree
use Rattle.mailbox_core.specs.contracts.mailbox.Mailbox as Mailbox
use Rattle.feed_store.specs.contracts.feed.Feed as Feed
use Rattle.feed_store.specs.contracts.packed.Packed as Packed
use Rattle.value_index.specs.contracts.valued.Valued as Valued
use Rattle.value_index.specs.contracts.column.Column as Column
use Rattle.value_index.specs.contracts.index.ValueIndex as ValueIndex
use Rattle.actor_turn.specs.contracts.firings.Firings as Firings
use Rattle.actor_turn.specs.contracts.outbox.Outbox as Outbox
use Rattle.fair_semantics.specs.contracts.run.Effect as Effect
use Rattle.fair_semantics.specs.contracts.run.Firing as Firing
use Rattle.fair_semantics.specs.contracts.run.Entry as Entry
use Rattle.post_ring.specs.contracts.sealed.Sealed as Sealed
use Rattle.post_ring.specs.contracts.link_in.LinkIn as LinkIn
use Rattle.post_ring.specs.contracts.link_out.LinkOut as LinkOut
use Rattle.cell_links.specs.contracts.ends.Inward as Inward
use Rattle.cell_links.specs.contracts.ends.Outward as Outward
use Rattle.actor_turn.specs.contracts.actor.Actor as Actor
use Rattle.actor_cells.specs.contracts.cell.Cell as Cell
use Rattle.actor_pool.specs.contracts.helper.Helper as Helper
use Rattle.actor_pool.specs.contracts.poster.Poster as Poster
use Rattle.atomic_table.proofs.shared.Seat.TheSendSync.{the_send as seat-send}
use Rattle.atomic_table.proofs.send_lease.SendLease.TheSendSync.{the_sync as lease-sync}
use Rattle.atomic_table.proofs.shared.Shared.TheSendSync.{the_sync as shared-sync}
use Rattle.actor_pool.specs.contracts.pool.Pool as Pool
use Rattle.pool_run.specs.contracts.parts.FeedPart as FeedPart
use Rattle.pool_run.specs.contracts.parts.HelperBack as HelperBack
use Rattle.pool_run.specs.contracts.parts.WorkPart as WorkPart
use Rattle.pool_run.specs.contracts.parts.Returned as Returned
use Rattle.rtrb.proofs.end.End.TheSendSync.{the_send as end-send}

-- ---- nodes, which hold rows in boxes, and rows, which hold nodes, each in one of the variants of an enum

box-send : (R : RattleType) → IsSend R → IsSend (Box.the_row R Global.the_row ghosts)
box-send R s = search (sendable, crosses) depth 40

vec-send : (R : RattleType) → IsSend R → IsSend (Vec.the_row R Global.the_row ghosts)
vec-send R s = search (sendable, crosses) depth 40

deque-send : (R : RattleType) → IsSend R → IsSend (VecDeque.the_row R Global.the_row ghosts)
deque-send R s = search (sendable, crosses) depth 40

number-send : IsSend (as_row u32-field)
number-send = search (sendable, crosses) depth 40

-- a leaf has a number, and any other node a number and its rows
shape-layer-send : (R : RattleType) → IsSend R → IsSend (knot.layer-Shape R)
shape-layer-send R s =
    let number : IsSend (as_row (row_field (as_row u32-field))) = as_row_send (row_field (as_row u32-field)) number-send in
    let boxed = as_row_send (row_field (Box.the_row (Vec.the_row R Global.the_row ghosts) Global.the_row ghosts)) (box-send _ (vec-send R s)) in
    variants_send (knot.type-Shape R) ((number, tt), ((number, (boxed, tt)), tt))

-- a row has nothing, a number, numbers, many of them in tiers, or nodes
nodes-layer-send : (R : RattleType) → IsSend R → IsSend (knot.layer-Nodes R)
nodes-layer-send R s =
    let number : IsSend (as_row (row_field (as_row u32-field))) = as_row_send (row_field (as_row u32-field)) number-send in
    let numbers = as_row_send (row_field (Box.the_row (VecDeque.the_row (as_row u32-field) Global.the_row ghosts) Global.the_row ghosts)) (box-send _ (deque-send _ number-send)) in
    let boxed = as_row_send (row_field (Box.the_row (VecDeque.the_row R Global.the_row ghosts) Global.the_row ghosts)) (box-send _ (deque-send R s)) in
    let tiers = as_row_send (row_field (Box.the_row TieredVec.the_row Global.the_row ghosts)) (box-send _ tiered-send) in
    variants_send (knot.type-Nodes R) (tt, ((number, tt), ((numbers, tt), ((tiers, tt), ((boxed, tt), tt)))))

shape-send : (p : Parts knot.frame) → IsSend (rows knot.frame p member-Row) → IsSend (knot.at-Shape p)
shape-send p all =
    let behind = rows knot.frame p member-Row in
    recorded_send _ _ _ (split_one (knot.layer-Shape behind) _ split-Shape join-Shape joins-Shape) (shape-layer-send behind all)

nodes-send : (p : Parts knot.frame) → IsSend (rows knot.frame p member-Node) → IsSend (knot.at-Nodes p)
nodes-send p all =
    let nodes = rows knot.frame p member-Node in
    recorded_send _ _ _ (split_one (knot.layer-Nodes nodes) _ split-Nodes join-Nodes joins-Nodes) (nodes-layer-send nodes all)

node-view-send : (p : Parts knot.frame) → IsSend (rows knot.frame p member-Row) → IsSend (knot.view-Node p)
node-view-send p all =
    let shape = knot.at-Shape p in
    let fields = declared_send (knot.type-Node shape) (as_row_send (row_field shape) (shape-send p all), tt) in
    view_send _ _ _ _ _ (recorded_send _ _ _ (split_one (knot.layer-Node shape) _ split-Node join-Node joins-Node) fields)

row-view-send : (p : Parts knot.frame) → IsSend (rows knot.frame p member-Node) → IsSend (knot.view-Row p)
row-view-send p all =
    let nodes = knot.at-Nodes p in
    let fields = declared_send (knot.type-Row nodes) (as_row_send (row_field nodes) (nodes-send p all), tt) in
    view_send _ _ _ _ _ (recorded_send _ _ _ (split_one (knot.layer-Row nodes) _ split-Row join-Row joins-Row) fields)

-- each as far as the other
by-member : (p : Parts knot.frame) → All (one_law the_members send) (rows knot.frame p) → All (one_law the_members send) (rows knot.frame (knot.step p))
by-member p all member-Node = has_of knot.frame send (knot.step p) member-Node (part_has send (knot.view-Node p) (node-view-send p (all member-Row)))
by-member p all member-Row = has_of knot.frame send (knot.step p) member-Row (part_has send (knot.view-Row p) (row-view-send p (all member-Node)))

row-send : IsSend Row.the_row
row-send = tied_goals knot.frame knot.step knot.sizes (one_law the_members send) by-member member-Row

-- ---- atoms and conjuncts, which hold each other

operand-send : IsSend Operand.the_row
operand-send = search (sendable, crosses) depth 40

relation-send : IsSend Relation.the_row
relation-send = search (sendable, crosses) depth 40

-- the fields of an atom, variant by variant, and of a conjunct, over other atoms and conjuncts
abbrev atom_parts : RattleType → RattleType → List (List Field)
atom_parts atom conjunct =
    (row_field Operand.the_row ∷ row_field Relation.the_row ∷ row_field Operand.the_row ∷ []) ∷ (row_field (Box.the_row atom Global.the_row ghosts) ∷ []) ∷ (row_field conjunct ∷ []) ∷ []

abbrev conjunct_parts : RattleType → List Field
conjunct_parts atom = row_field (Vec.the_row atom Global.the_row ghosts) ∷ []

-- one layer of each, over what may be sent. A law sees no names, so the layer goes without
atom-step : (h : block.the_members → RattleType) → IsSend (h block.member-Atom) → IsSend (h block.member-Conjunct) → IsSend (layer_row Atom.the_ring block.member-Atom h)
atom-step h atom conjunct =
    let operand : IsSend (as_row (row_field Operand.the_row)) = as_row_send (row_field Operand.the_row) operand-send in
    let relation : IsSend (as_row (row_field Relation.the_row)) = as_row_send (row_field Relation.the_row) relation-send in
    let boxed : IsSend (as_row (row_field (Box.the_row (h block.member-Atom) Global.the_row ghosts))) = as_row_send (row_field (Box.the_row (h block.member-Atom) Global.the_row ghosts)) (box-send _ atom) in
    let group : IsSend (as_row (row_field (h block.member-Conjunct))) = as_row_send (row_field (h block.member-Conjunct)) conjunct in
    let s = variants_send (enum_layer [] [] [] (atom_parts (h block.member-Atom) (h block.member-Conjunct))) ((operand, (relation, (operand, tt))), ((boxed, tt), ((group, tt), tt))) in
    record { owned = s.owned; leaving = s.leaving }

conjunct-step : (h : block.the_members → RattleType) → IsSend (h block.member-Atom) → IsSend (layer_row Atom.the_ring block.member-Conjunct h)
conjunct-step h atom =
    let s = declared_send (struct_layer [] [] [] (conjunct_parts (h block.member-Atom))) (as_row_send (row_field (Vec.the_row (h block.member-Atom) Global.the_row ghosts)) (vec-send _ atom), tt) in
    record { owned = s.owned; leaving = s.leaving }

steps : (i : block.the_members) → Sends Atom.the_ring i
steps block.member-Atom = record { send = λ h all. atom-step h (all block.member-Atom) (all block.member-Conjunct) }
steps block.member-Conjunct = record { send = λ h all. conjunct-step h (all block.member-Atom) }

hole-send : (i : block.the_members) → IsSend (holes Atom.the_ring i)
hole-send = fix_send Atom.the_ring steps

conj-send : IsSend Conjunct.the_row
conj-send = declared_send Conjunct.the_type (as_row_send (row_field (Vec.the_row (holes Atom.the_ring block.member-Atom) Global.the_row ghosts)) (vec-send _ (hole-send block.member-Atom)), tt)

-- ---- what actors are made of

list-send : IsSend ConjunctList.the_row
list-send = search (sendable, crosses, vec-send, conj-send) depth 40 fits 100000

definition-send : IsSend Definition.the_row
definition-send = search (sendable, crosses, list-send) depth 40 fits 100000

message-send : IsSend Message.the_row
message-send = search (sendable, crosses) depth 40 fits 100000

stamped-send : IsSend Stamped.the_row
stamped-send = search (sendable, crosses) depth 40 fits 100000

statement-send : IsSend Statement.the_row
statement-send = search (sendable, crosses, operand-send) depth 40 fits 100000

rule-send : IsSend Rule.the_row
rule-send = declared_send Rule.the_type (search (sendable, crosses, definition-send) depth 40, (search (sendable, crosses) depth 40, (search (sendable, crosses, statement-send) depth 40, tt)))

rows-send : IsSend (Vec.the_row Row.the_row Global.the_row ghosts)
rows-send = vec-send Row.the_row row-send

candidate-send : IsSend Candidate.the_row
candidate-send = search (sendable, crosses) depth 40

pending-send : IsSend Pending.the_row
pending-send = search (sendable, crosses, candidate-send) depth 40

maybe-send : IsSend (Option.the_row Pending.the_row)
maybe-send = search (sendable, crosses, pending-send) depth 40

ties-send : IsSend Ties.the_row
ties-send = search (sendable, crosses) depth 40

-- the fields of a tree
abbrev tree_parts : List Field
tree_parts = row_field Global.the_row ∷ row_field Definition.the_row ∷ row_field Ties.the_row ∷ u32-field ∷ row_field (Vec.the_row Row.the_row Global.the_row ghosts) ∷ u64-field ∷ row_field (Option.the_row Pending.the_row) ∷ []

tree-fields : IsSend (S.row (struct_layer [] [] [] tree_parts))
tree-fields =
    let alloc : IsSend (as_row (row_field Global.the_row)) = search (sendable, crosses) depth 40 in
    let number : IsSend (as_row u32-field) = search (sendable, crosses) depth 40 in
    let count : IsSend (as_row u64-field) = search (sendable, crosses) depth 40 in
    declared_send (struct_layer [] [] [] tree_parts) (
      alloc,
      (
        as_row_send (row_field Definition.the_row) definition-send,
        (
          as_row_send (row_field Ties.the_row) ties-send,
          (
            number,
            (
              as_row_send (row_field (Vec.the_row Row.the_row Global.the_row ghosts)) rows-send,
              (count, (as_row_send (row_field (Option.the_row Pending.the_row)) maybe-send, tt)),
            ),
          ),
        ),
      ),
    )

tree-send : IsSend MatchTree.the_row
tree-send = record {
  owned = λ d vs x. (tree-fields.owned (x.0.alloc, (x.0.definition, (x.0.ties, (x.0.rule, (x.0.rows, (x.0.count, (x.0.pending, tt))))))) vs, tt);
  leaving = λ k d w. tt;
}

-- a column has a set of numbers with their values, which is sent whole: a search that goes down into it runs out of steps
valued-send : IsSend Valued.the_row
valued-send = search (sendable, crosses) depth 40

set-send : (o : ord.Ghosts (Valued.the_row).Denot) (e : eq.Ghosts (Valued.the_row).Denot) (p : partial.Ghosts (Valued.the_row).Denot) → IsSend (BTreeSet.the_field Valued.the_row Global.the_row o e p ghosts).row
set-send o e p = BTreeSet-send Valued.the_row Global.the_row o e p ghosts valued-send heap-send frees

column-send : IsSend Column.the_row
column-send = search (sendable, crosses, set-send) depth 40 fits 100000

index-send : IsSend ValueIndex.the_row
index-send = search (sendable, crosses, column-send) depth 40 fits 100000

mailbox-send : IsSend Mailbox.the_row
mailbox-send = search (sendable, crosses, message-send) depth 40 fits 100000

outbox-send : IsSend Outbox.the_row
outbox-send = search (sendable, crosses, stamped-send) depth 40 fits 100000

value-send : IsSend Value.the_row
value-send = search (sendable, crosses) depth 40 fits 100000

effect-send : IsSend Effect.the_row
effect-send = search (sendable, crosses, value-send) depth 40 fits 100000

firing-send : IsSend Firing.the_row
firing-send = search (sendable, crosses, effect-send) depth 40 fits 100000

firings-send : IsSend Firings.the_row
firings-send = search (sendable, crosses, firing-send) depth 40 fits 100000

entry-send : IsSend Entry.the_row
entry-send = declared_send Entry.the_type (search (sendable, crosses) depth 40, (search (sendable, crosses) depth 40, (search (sendable, crosses, message-send) depth 40, (search (sendable, crosses) depth 40, (search (sendable, crosses, firing-send) depth 40, tt)))))

-- ---- links, cells, helpers and posters

sealed-send : IsSend Sealed.the_row
sealed-send = declared_send Sealed.the_type (search (sendable, crosses, stamped-send) depth 40, tt)

in-send : IsSend LinkIn.the_row
in-send = search (sendable, crosses, end-send, sealed-send) depth 40 fits 100000

out-send : IsSend LinkOut.the_row
out-send = search (sendable, crosses, end-send, sealed-send) depth 40 fits 100000

inward-send : IsSend Inward.the_row
inward-send = declared_send Inward.the_type (search (sendable, crosses) depth 40, (search (sendable, crosses, out-send) depth 40, tt))

outward-send : IsSend Outward.the_row
outward-send = declared_send Outward.the_type (search (sendable, crosses) depth 40, (search (sendable, crosses, in-send) depth 40, tt))

actor-send : IsSend Actor.the_row
actor-send = search (sendable, crosses, rule-send, mailbox-send, tree-send, index-send, firings-send, outbox-send, entry-send) depth 40 fits 100000

boxed-send : IsSend (Box.the_row Actor.the_row Global.the_row ghosts)
boxed-send = box-send Actor.the_row actor-send

cell-send : IsSend Cell.the_row
cell-send = search (sendable, crosses, boxed-send, inward-send, outward-send) depth 40 fits 100000

pub helper-send : IsSend Helper.the_row
helper-send = search (sendable, crosses, seat-send, cell-send) depth 40 fits 100000

poster-send : IsSend Poster.the_row
poster-send = search (sendable, crosses, seat-send, cell-send, outward-send) depth 40 fits 100000

-- ---- what threads share

pub pool-sync : IsSync Pool.the_row
pool-sync = declared_sync Pool.the_type (search (sendable, crosses, shared-sync, lease-sync, cell-send) depth 40 fits 100000, (search (sendable, crosses, shared-sync, lease-sync) depth 40 fits 100000, (search (sendable, crosses) depth 40, (search (sendable, crosses) depth 40, (search (sendable, crosses) depth 40, (search (sendable, crosses) depth 40, (search (sendable, crosses) depth 40, tt)))))))

-- ---- what threads are given and give back, where what stands beside and the sources may be sent

packed-send : IsSend Packed.the_row
packed-send = search (sendable, crosses) depth 40 fits 100000

feed-send : IsSend Feed.the_row
feed-send = search (sendable, crosses, message-send, packed-send) depth 40 fits 100000

part-send : (B : RattleType) → IsSend B → IsSend (FeedPart.the_row B)
part-send B s = declared_send (FeedPart.the_type B) (search (sendable, crosses, poster-send) depth 40, (search (sendable, crosses, helper-send) depth 40, (search (sendable, crosses, feed-send) depth 40, (search (sendable, crosses) depth 40, tt))))

worker-send : (S B : RattleType) → IsSend S → IsSend B → IsSend (WorkPart.the_row S B)
worker-send S B s t = declared_send (WorkPart.the_type S B) (search (sendable, crosses, helper-send) depth 40, (search (sendable, crosses) depth 40, (search (sendable, crosses) depth 40, tt)))

pub back-send : (B : RattleType) → IsSend B → IsSend (HelperBack.the_row B)
back-send B s = declared_send (HelperBack.the_type B) (search (sendable, crosses, helper-send) depth 40, (search (sendable, crosses) depth 40, tt))

pub backs-send : (B : RattleType) → IsSend B → IsSend (Vec.the_row (HelperBack.the_row B) Global.the_row ghosts)
backs-send B s = vec-send (HelperBack.the_row B) (back-send B s)

pub returned-send : (B : RattleType) → IsSend B → IsSend (Returned.the_row B)
returned-send B s = declared_send (Returned.the_type B) (search (sendable, crosses, poster-send) depth 40, (as_row_send (row_field (Vec.the_row (HelperBack.the_row B) Global.the_row ghosts)) (backs-send B s), tt))

pub parts-send : (B : RattleType) → IsSend B → IsSend (Vec.the_row (FeedPart.the_row B) Global.the_row ghosts)
parts-send B s = vec-send (FeedPart.the_row B) (part-send B s)

pub crew-send : (S B : RattleType) → IsSend S → IsSend B → IsSend (Vec.the_row (WorkPart.the_row S B) Global.the_row ghosts)
crew-send S B s t = vec-send (WorkPart.the_row S B) (worker-send S B s t)
