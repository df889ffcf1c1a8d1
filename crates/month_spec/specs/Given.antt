-- The conditions under which each number is given, in the papers' words. proofs/Given.antt proves
-- each both ways.
use Rattle.std.specs.Prelude.{ℕ, ◌+◌, ◌*◌, ◌≤◌, ◌<◌, ◌≡◌, List, ◌∷◌, ◌++◌, length, get_or}
use Rattle.month_spec.specs.Figures.{figure_of}
use Rattle.month_spec.specs.Page.{Page, captures, places, highest, PageRules}

-- ---- starting

-- channels that a start takes
pub record Names (cs : List ℕ) : Type 0 where
  pub few : length cs ≤ places
  pub small : (i : ℕ) → i < length cs → get_or cs i 0 ≤ 9999
  pub apart : (i j : ℕ) → i < length cs → j < length cs → get_or cs i 0 ≡ get_or cs j 0 → i ≡ j

-- the first channel that is refused, and the channels before it
pub record First (cs : List ℕ) : Type 0 where
  pub before : List ℕ
  pub channel : ℕ
  pub behind : List ℕ
  pub is : cs ≡ before ++ channel ∷ behind
  pub named : Names before

-- the channel stands among those before it, at a place
pub record Among (cs : List ℕ) (channel : ℕ) : Type 0 where
  pub at : ℕ
  pub inside : at < length cs
  pub same : get_or cs at 0 ≡ channel

-- 10: "channel above 9,999"
pub record Given10 (cs : List ℕ) : Type 0 where
  pub first : First cs
  pub long : 9999 < first.channel

-- 22: "already open"
pub record Given22 (cs : List ℕ) : Type 0 where
  pub first : First cs
  pub short : first.channel ≤ 9999
  pub twice : Among first.before first.channel

-- 21: "table full"
pub record Given21 (cs : List ℕ) : Type 0 where
  pub first : First cs
  pub short : first.channel ≤ 9999
  pub new : Among first.before first.channel → ⊥
  pub full : length first.before ≡ places

-- ---- adding

-- 27: "for a 501st capture"
pub record Given27 (p : Page) : Type 0 where
  pub rules : PageRules p
  pub full : p.taken ≡ captures

-- 28: "for a sum that would pass 64 bits", of a named channel and one of its six figures
pub record Given28 (p : Page) (s : List ℕ) : Type 0 where
  pub rules : PageRules p
  pub room : p.taken < captures
  pub place : ℕ
  pub figure : ℕ
  pub named : place < p.named
  pub six : figure < 6
  pub passes : highest < get_or p.sums (6 * place + figure) 0 + figure_of (get_or p.channels place 0) s figure

-- 0: none of the above
pub record Given0 (p : Page) (s : List ℕ) : Type 0 where
  pub rules : PageRules p
  pub room : p.taken < captures
  pub fits : (place figure : ℕ) → place < p.named → figure < 6
      → get_or p.sums (6 * place + figure) 0 + figure_of (get_or p.channels place 0) s figure ≤ highest
