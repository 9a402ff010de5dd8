-- The transform layer by layer: a list is taken block by block, and each block is folded.
use Rattle.std.specs.Prelude.{List, ◌++◌, ℕ, zero, suc, ◌+◌, ◌/◌, ◌≤◌, ◌<◌, length, take, drop}
use Rattle.words.specs.Bits.{Bits}
use Rattle.bit_rows.specs.Fold.{folded}

-- f of the first b entries, the rest unchanged
abbrev pub on_front : (List ℕ → List ℕ) → ℕ → List ℕ → List ℕ
on_front f b x = f (take b x) ++ drop b x

-- f of each of the first c blocks of b entries, the rest unchanged
abbrev pub first_blocks : (List ℕ → List ℕ) → ℕ → ℕ → List ℕ → List ℕ
first_blocks f b zero x = x
first_blocks f b (suc c) x = f (take b x) ++ first_blocks f b c (drop b x)

-- of all blocks that are whole
unfoldable pub blocks : (List ℕ → List ℕ) → ℕ → List ℕ → List ℕ
blocks f b x = first_blocks f b (length x / b) x

-- a layer of step h folds each block of 2h bits
abbrev pub layer : ℕ → List ℕ → List ℕ
layer h x = blocks (folded h) (h + h) x

-- this many layers, the first of step h, each of twice the step of the one before
unfoldable pub layers : ℕ → ℕ → List ℕ → List ℕ
layers zero h x = x
layers (suc c) h x = layers c (h + h) (layer h x)

-- what a layer requires
pub record Steps (h : ℕ) (x : List ℕ) : Type 0 where
  pub some : 0 < h
  pub within : h + h ≤ length x
  pub bits : Bits x
