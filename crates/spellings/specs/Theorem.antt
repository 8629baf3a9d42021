-- THE THREE SPELLINGS, as a statement: `three_spellings` of proofs/Bytes.antt proves it. A byte map is a map of bytes to
-- bytes that keeps XOR (`Linear 8`); k and l range over the kinds quadword, eight images, eight coefficients; `Same 8` is
-- to agree on all 256 bytes.
use Rattle.std.specs.Prelude.{◌≡◌, ◌↔◌, ℕ}
use Rattle.spellings.specs.Maps.{Linear, Same}
use Rattle.spellings.specs.Kinds.{Kind, Value, Valid, meaning, find, turn, compose}

-- v spells f, and no other value of the kind does
pub record One (k : Kind) (f : ℕ → ℕ) (v : Value k) : Type 0 where
  pub valid : Valid k v
  pub same : Same 8 (meaning k v) f
  pub only : (w : Value k) → Valid k w → Same 8 (meaning k w) f → w ≡ v

pub record ThreeSpellings : Type 0 where
  -- every byte map has exactly one spelling of each kind
  pub one : (k : Kind) (f : ℕ → ℕ) → Linear 8 f → One k f (find k f)
  -- every value of each kind is a byte map
  pub means : (k : Kind) (v : Value k) → Valid k v → Linear 8 (meaning k v)
  -- turned into any kind, it is a value of that kind, and each of the 256 bytes goes where it went
  pub turned : (k l : Kind) (v : Value k) → Valid k v → Valid l (turn k l v)
  pub keeps : (k l : Kind) (v : Value k) → Valid k v → Same 8 (meaning l (turn k l v)) (meaning k v)
  -- turned back, it is what we started with
  pub back : (k l : Kind) (v : Value k) → Valid k v → turn l k (turn k l v) ≡ v
  -- two maps agree on all 256 bytes exactly when their spellings of any one kind are equal
  pub agree : (k : Kind) (f g : ℕ → ℕ) → Linear 8 f → Linear 8 g → Same 8 f g ↔ (find k f ≡ find k g)
  pub equal : (k : Kind) (v w : Value k) → Valid k v → Valid k w → Same 8 (meaning k v) (meaning k w) ↔ (v ≡ w)
  -- composed, the second is applied first
  pub composed : (k : Kind) (v w : Value k) → Valid k v → Valid k w → Same 8 (meaning k (compose k v w)) (λ a. meaning k v (meaning k w a))

-- composing, of any one kind: found values compose as their maps do, the identity changes nothing, and brackets do not matter
-- (`composition` of proofs/Algebra.antt proves it)
pub record Composition (k : Kind) : Type 0 where
  pub found : (f g : ℕ → ℕ) → Linear 8 f → Linear 8 g → compose k (find k f) (find k g) ≡ find k (λ a. f (g a))
  pub identity_l : (v : Value k) → Valid k v → compose k (find k (λ a. a)) v ≡ v
  pub identity_r : (v : Value k) → Valid k v → compose k v (find k (λ a. a)) ≡ v
  pub assoc : (u v w : Value k) → Valid k u → Valid k v → Valid k w → compose k (compose k u v) w ≡ compose k u (compose k v w)

-- what this says of a conversion, of code as of mathematics, that answers w to v: w is the one spelling of the map that v
-- means, and turned back it is v
pub record Converts (k l : Kind) (v : Value k) (w : Value l) : Type 0 where
  pub one : One l (meaning k v) w
  pub back : turn l k w ≡ v
