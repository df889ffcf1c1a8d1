-- What a host has after rk_walk of a capture, and after rk_listing of what that left: document 01's
-- walk and its listing.
use Rattle.std.specs.Prelude.{ℕ, ◌*◌, ◌≡◌, List, [], ◌∷◌, length, get_or, take}
use Rattle.octets.specs.Octets.{laid}
use Rattle.ledger.specs.State.{ledger_of}
use Rattle.listing_text.specs.declared.Summary.{Summary}
use Rattle.walk_spec.specs.Literal.{Walk}
use Rattle.walk_spec.specs.Walk.{table_of}
use Rattle.listing_text.specs.Whole.{listing_of}
use Rattle.listing_text.specs.Listed.{last_at}
use Rattle.host_words.specs.Words.{words_of}

-- the numbers of the last line: the walk's counts, and its ledger's floor, top and missing count
abbrev pub last_of : Walk → Summary
last_of w = last_at w.frames w.refused w.ledger

-- the listing of a walk, from the bytes of its records
unfoldable pub text_of : Walk → List ℕ
text_of w = listing_of (table_of w.records) (last_of w)

-- rk_walk, lent the records' buffer d with room for all: it answers x, leaves d' there and w' in
-- the nine words, and tells row
pub record HostWalked (w : Walk) (d : List ℕ) (x : ℕ) (d' w' row : List ℕ) : Type 0 where
  pub number : x ≡ 0
  pub told : row ≡ length w.records ∷ w.frames ∷ w.refused ∷ []
  pub words : w' ≡ words_of (ledger_of w.ledger)
  pub buffer : d' ≡ laid 0 (table_of w.records) d

-- rk_listing is lent what rk_walk left and told: the records that were told, the two counts,
-- and the words
pub record Lends (d' w' row records : List ℕ) (frames refused : ℕ) (words : List ℕ) : Type 0 where
  pub records_are : records ≡ take (64 * get_or row 0 0) d'
  pub frames_are : frames ≡ get_or row 1 0
  pub refused_are : refused ≡ get_or row 2 0
  pub words_are : words ≡ w'

-- rk_listing, lent the buffer t with room for the text: it answers y, leaves t', and tells
-- how many bytes
pub record HostListed (text t : List ℕ) (y : ℕ) (t' : List ℕ) (told : ℕ) : Type 0 where
  pub number : y ≡ 0
  pub bytes : told ≡ length text
  pub buffer : t' ≡ laid 0 text t
