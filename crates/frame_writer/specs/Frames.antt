-- Document 02, "Frames from the compiler's report": "The table is altered in its own buffer, and only in its frames."
use Rattle.std.specs.Prelude.{ℕ, ◌+◌, ◌*◌, ◌<◌, ◌≡◌, ◌⊎◌, List, length, get_or}
use Rattle.table.specs.Record.{functions, field_c}
use Rattle.table.specs.Checks.{Accepted}
use Rattle.table.specs.Program.{Program, program_of, within}

-- "Function, kind 1. [..] c the frame in bytes": byte p is one of the two of the frame of one of the first n functions
abbrev pub InFrame : ℕ → ℕ → Type 0
InFrame n p = (f : ℕ) × (f < n) × ((p ≡ f * 8 + 6) ⊎ (p ≡ f * 8 + 7))

-- u is t, but the frames of its first n functions are these
pub record FramesSet (t : List ℕ) (n : ℕ) (frame : ℕ → ℕ) (u : List ℕ) : Type 0 where
  pub long : length u ≡ length t
  pub frame_is : (f : ℕ) → f < n → field_c u f ≡ frame f
  pub others : (p : ℕ) → (InFrame n p → ⊥) → get_or u p 0 ≡ get_or t p 0

-- a program with other frames
abbrev pub with_frames : (ℕ → ℕ) → Program → Program
with_frames frame g = record {
  functions = g.functions;
  nodes = g.nodes;
  entry = g.entry;
  first = g.first;
  exit = g.exit;
  frame = λ f. within g.functions f (frame f);
  sort = g.sort;
  owner = g.owner;
  target = g.target;
  edge = g.edge;
}

-- An accepted table t has the frames given: u has every other byte of it, is accepted too, and describes the old program with these frames.
pub record WithFrames (t : List ℕ) (frame : ℕ → ℕ) (u : List ℕ) : Type 0 where
  pub bytes : FramesSet t (functions t) frame u
  pub accepted_is : Accepted u
  pub program_is : program_of u ≡ with_frames frame (program_of t)
