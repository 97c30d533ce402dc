use native.Mathlib.Omega.{arith}
use Rattle.solver.proofs.Values.{size_put, after_put, before_put, through_put}
use Rattle.solver.proofs.solution.Solution.put.Goals as goal

pub returns-in-0-to-2303 : goal.returns-in-0-to-2303
returns-in-0-to-2303 c = size_put c.args.self.now c.args.x c.args.size (omega arith) (omega arith)

pub returns-in-2304-to-2815 : goal.returns-in-2304-to-2815
returns-in-2304-to-2815 c = after_put c.args.self.now c.args.x c.args.size (omega arith) (omega arith) (omega arith)

pub returns-in-2816-to-3327 : goal.returns-in-2816-to-3327
returns-in-2816-to-3327 c = before_put c.args.self.now c.args.x c.args.size (omega arith) (omega arith) (omega arith)

pub returns-in_default : goal.returns-in_default
returns-in_default c = through_put c.args.self.now c.args.x c.args.size (omega arith) (omega arith)
