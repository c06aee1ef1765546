-- The text stands in the buffer from the place on. Assumes nothing.
use Rattle.std.proofs.Common.{append_assoc, ◌+◌, ◌-◌, ◌≡◌, ◌∙◌, refl, sym, length, take, drop, arith}
use Rattle.std.proofs.lemmas.List.Edits.{sets-eq, paste_all}
use Rattle.std.proofs.lemmas.Slice.{put_mid-paste}
use Rattle.sheet.proofs.print.put_bytes.Goals as goal

pub returns : goal.returns
returns c =
    let a = c.args in
    let out = a.out.now in
    let text = a.text.now in
    let q : length text ≡ a.at + length text - a.at = omega arith in
    record {
      count = refl;
      put =
          put_mid-paste a.at _ out _ text (length text) c.copy_from_slice.ensures.after q refl
          ∙ paste_all out a.at text (length text) refl
          ∙ sym (sets-eq text out a.at c.requires ∙ append_assoc (take a.at out) text (drop (a.at + length text) out));
    }
