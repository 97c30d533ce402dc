-- The invariant: blocks are listed of the functions before f, and with the last one all nodes and edges are done.
use Rattle.std.proofs.Common.{◌≡◌, ◌+◌, ◌*◌, ◌≤◌, length}
use Rattle.listed.specs.Listed.{blocks, Listed}
use Rattle.listed.proofs.source.Source.list_all.Given as goal

abbrev pub invariant-loop-f : goal.invariant-loop-f
invariant-loop-f g l = record {
  nodes_within : l.a ≤ l.self.known.now.program.of.nodes;
  edges_within : l.b ≤ l.self.known.now.program.of.edges;
  all_nodes : l.f ≡ l.self.known.now.program.of.functions → l.a ≡ l.self.known.now.program.of.nodes;
  all_edges : l.f ≡ l.self.known.now.program.of.functions → l.b ≡ l.self.known.now.program.of.edges;
  few : length l.rules.items ≤ 8 * l.a + 4 * l.b + 3 * l.f;
  listed : Listed l.self (blocks l.a l.b l.f) l.rules.items;
}
