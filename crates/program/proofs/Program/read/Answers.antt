use Rattle.table.proofs.Laws.{answer_accepted}
use Rattle.table.proofs.Ready.{functions_are, nodes_are, few_functions, few_nodes, few_edges}
use Rattle.program.proofs.Program.read.Goals as goal

pub invariant_of-result : goal.invariant_of-result
invariant_of-result c =
    let ready = answer_accepted _ _ c.in_ok-of.ensures in
    record {
      ready = ready;
      functions_are = functions_are _ _ ready;
      nodes_are = nodes_are _ _ ready;
      few_functions = few_functions _ _ ready;
      few_nodes = few_nodes _ _ ready;
      few_edges = few_edges _ _ ready;
    }
