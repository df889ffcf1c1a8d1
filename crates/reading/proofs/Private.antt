-- Nothing private is seen: frames that agree in all but private fields and checksum are seen alike.
-- Records and ledger calls are made of what is seen, by the types of `recordBy : Book → Sight Seen
-- → Record` and `callsBy : Seen → List Call` of `walk_spec`: so they are alike too.
use Rattle.std.specs.Prelude.{ℕ, ◌+◌, ◌≤◌, ◌≡◌, List}
use Rattle.std.proofs.Common.{sym, ap, ◌∙◌, arith}
use Rattle.octets.specs.Octets.{be}
use Rattle.octets.specs.Numerals.{numeral_take}
use Rattle.rules.specs.Table.{kind_of}
use Rattle.frame_spec.specs.Frame.{msg_type, body, read_of}
use Rattle.frame_view.specs.View.{view_of}
use Rattle.frame_view.specs.declared.View.{View}
use Rattle.private.specs.Laws.{Alike}
use Rattle.private.specs.PrivateLaws.{view_same}
use Rattle.reading.specs.Seen.{shown, seen_of}
use Rattle.reading.proofs.SeenLaws.{seen_frame}

module _ (f g : List ℕ) (a : Alike f g) where
  -- the header's numbers
  header_same : (w at : ℕ) → at + w ≤ 24 → be w at f ≡ be w at g
  header_same w at h = sym (numeral_take 256 w at 24 f h) ∙ ap (be w at) a.header ∙ numeral_take 256 w at 24 g h

  -- the counters of the body
  body_same : view_of (kind_of (msg_type f)) (body f) ≡ view_of (kind_of (msg_type g)) (body g)
  body_same = view_same (kind_of (msg_type f)) (body f) (body g) a.bodies ∙ ap (λ (t : ℕ). view_of (kind_of t) (body g)) (header_same 4 0 (omega arith))

  shown_same : (v : View) → shown f v ≡ shown g v
  shown_same v = rw (header_same 4 0 (omega arith), header_same 8 12 (omega arith), header_same 4 20 (omega arith))

  pub seen_alike : (read_of f).number ≡ 0 → (read_of g).number ≡ 0 → seen_of f ≡ seen_of g
  seen_alike y z = seen_frame f y ∙ ap (shown f) body_same ∙ shown_same (view_of (kind_of (msg_type g)) (body g)) ∙ sym (seen_frame g z)
