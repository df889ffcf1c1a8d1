-- `store`: after each call the front of the buffer is the frame's parts so far, laid over what it
-- was; `put_next` takes one part more. The sum is taken over the part that is then laid.
-- Assumes nothing.
use Rattle.std.proofs.Common.{◌≡◌, ℕ, ◌+◌, ◌≤◌, List, ◌++◌, length, take, refl, ap, ◌∙◌, arith, length-append, le-leb}
use Rattle.octets.specs.Papers.{laid_there}
use Rattle.frame_spec.specs.WriteLaws.{plain_length, put_next}
use Rattle.frame_spec.specs.Write.{Message, plain_of, frame_of}
use Rattle.frame.specs.Papers.{text_of}
use Rattle.octets.specs.Overlays.{take_front}
use Rattle.octets.specs.Numerals.{length_digits}
use Rattle.octets.specs.Octets.{bytes_of, laid, sum8}
use Rattle.frame.proofs.store.Goals as goal
use Rattle.frame.proofs.store.Goals.{After-lay, After-put, After-put-2, After-put-3, After-put-4, After-put-5, Start}

-- the function's entry from behind the first call, and the way from each call to the one before it
abbrev entry2 : goal.After-put-2 → goal.Start
entry2 c = (goal.at.After-put-2 c).Start

abbrev entry3 : goal.After-put-3 → goal.Start
entry3 c = (goal.at.After-put-3 c).Start

abbrev entry4 : goal.After-put-4 → goal.Start
entry4 c = (goal.at.After-put-4 c).Start

abbrev entry5 : goal.After-lay → goal.Start
entry5 c = (goal.at.After-lay c).Start

abbrev entry6 : goal.After-put-5 → goal.Start
entry6 c = (goal.at.After-put-5 c).Start

abbrev text : goal.Start → Message
text c = text_of c.args.message

-- the frame's parts so far
abbrev parts1 : Message → List ℕ
parts1 m = bytes_of 4 m.type

abbrev parts2 : Message → List ℕ
parts2 m = parts1 m ++ bytes_of 8 m.time

abbrev parts3 : Message → List ℕ
parts3 m = parts2 m ++ bytes_of 8 m.seq

abbrev parts4 : Message → List ℕ
parts4 m = parts3 m ++ bytes_of 4 (length m.content)

room : (c : goal.Start) → 28 + length c.args.message.body.now ≤ length c.args.out.now
room c = c.requires

laid1 : (c : goal.After-put) → c.put.new.d ≡ laid 0 (parts1 (text (goal.at.After-put c).Start)) c.args.out.now
laid1 c = c.put.ensures.1 ∙ laid_there 0 4 _ _ (length_digits 256 4 _) (le-leb 4 (length c.args.out.now) (omega (arith, room (goal.at.After-put c).Start)))

laid2 : (c : goal.After-put-2) → c.put-2.new.d ≡ laid 0 (parts2 (text (goal.at.After-put-2 c).Start)) (entry2 c).args.out.now
laid2 c = put_next 4 8 _ _ _ _ _ c.put-2.ensures.1 (length_digits 256 8 _) (laid1 (goal.at.After-put-2 c).After-put) (length_digits 256 4 _) (omega (arith, room (goal.at.After-put-2 c).Start))

laid3 : (c : goal.After-put-3) → c.put-3.new.d ≡ laid 0 (parts3 (text (goal.at.After-put-3 c).Start)) (entry3 c).args.out.now
laid3 c =
    put_next 12 8 _ _ _ _ _ (rw c.value.ensures at c.put-3.ensures.1) (length_digits 256 8 _) (laid2 (goal.at.After-put-3 c).After-put-2) (simp (length-append, length_digits)) (omega (arith, room (goal.at.After-put-3 c).Start))

laid4 : (c : goal.After-put-4) → c.put-4.new.d ≡ laid 0 (parts4 (text (goal.at.After-put-4 c).Start)) (entry4 c).args.out.now
laid4 c = put_next 20 4 _ _ _ _ _ c.put-4.ensures.1 (length_digits 256 4 _) (laid3 (goal.at.After-put-4 c).After-put-3) (simp (length-append, length_digits)) (omega (arith, room (goal.at.After-put-4 c).Start))

laid5 : (c : goal.After-lay) → c.lay.new.d ≡ laid 0 (plain_of (text (goal.at.After-lay c).Start)) (entry5 c).args.out.now
unfolding plain_of
laid5 c = put_next 24 _ _ _ _ _ _ c.lay.ensures.1 refl (laid4 (goal.at.After-lay c).After-put-4) (simp (length-append, length_digits)) (omega (arith, room (goal.at.After-lay c).Start))

sum : (c : goal.After-put-5) → c.sum-v.result ≡ sum8 (plain_of (text (goal.at.After-put-5 c).Start))
sum c =
    c.sum-v.ensures
    ∙ ap (λ (l : List ℕ). sum8 (take (24 + length (entry6 c).args.message.body.now) l)) (laid5 (goal.at.After-put-5 c).After-lay)
    ∙ ap sum8 (take_front _ (plain_of (text (goal.at.After-put-5 c).Start)) _ (plain_length (text (goal.at.After-put-5 c).Start)))

laid6 : (c : goal.After-put-5) → c.put-5.new.d ≡ laid 0 (frame_of (text (goal.at.After-put-5 c).Start)) (entry6 c).args.out.now
unfolding frame_of
laid6 c = put_next _ 4 _ _ _ _ _ (rw (sum c) at c.put-5.ensures.1) (length_digits 256 4 _) (laid5 (goal.at.After-put-5 c).After-lay) (plain_length (text (goal.at.After-put-5 c).Start)) (omega (arith, room (goal.at.After-put-5 c).Start))

pub returns : goal.returns
returns c = laid6 (goal.at.returns c).After-put-5
