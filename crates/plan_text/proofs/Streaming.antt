-- Laws of a reader whose bytes are taken piece by piece. Assumes nothing.
use mathlib.Core.Path.{◌≡◌, refl, sym, ap, ◌∙◌, subst}
use mathlib.Core.List.{List, [], ◌++◌, append_assoc, append-nil}
use Prim.Native.Nat.{ℕ}
use lib.ListN.{take}
use Rattle.std.specs.Prelude.{Option, None, Some}
use Rattle.std.specs.Io.KnownBytes.{Consumes}
use Rattle.plan_lines.specs.declared.Reading.{Reading}
use Rattle.plan_lines.specs.Pieces.{IsRead, IsReady}

-- bytes, and then more
consumes-both : (a b c : Option (List ℕ)) (x y : List ℕ) → Consumes a b x → Consumes b c y → Consumes a c (x ++ y)
consumes-both None b c x y p q = tt
consumes-both (Some l) None c x y p q = absurd p
consumes-both (Some l) (Some m) None x y p q = absurd q
consumes-both (Some l) (Some m) (Some n) x y p q = p ∙ ap (λ z. x ++ z) q ∙ sym (append_assoc x y n)

consumes-none : (a : Option (List ℕ)) → Consumes a a []
consumes-none None = tt
consumes-none (Some l) = refl

-- what was read of an input so far has been taken
pub record Streamed (before : Reading) (left : Option (List ℕ)) (m : Reading) (now : Option (List ℕ)) : Type 0 where
  pub ready : IsReady m
  pub read : (text : List ℕ) → IsRead text before → (bytes : List ℕ) × Consumes left now bytes × IsRead (text ++ bytes) m

pub streamed-none : {m : Reading} {left : Option (List ℕ)} → IsReady m → Streamed m left m left
streamed-none {m = m} {left = left} ready =
    record { ready = ready; read = λ text read. ([], consumes-none left, subst (λ t. IsRead t m) (sym (append-nil text)) read) }

module _ {before m after : Reading} {left now next : Option (List ℕ)} (at : Streamed before left m now) (piece : List ℕ) where
  pub streamed-more : Consumes now next piece → ((text : List ℕ) → IsRead text m → IsRead (text ++ piece) after) → Streamed before left after next
  streamed-more consumes taken =
      let (text, read) = at.ready in
      record {
        ready = (_, taken text read);
        read = λ text read.
            let (bytes, so_far, is) = at.read text read in (
              bytes ++ piece,
              consumes-both left now next bytes piece so_far consumes,
              subst (λ t. IsRead t after) (append_assoc text bytes piece) (taken (text ++ bytes) is),
            );
      }

module _ {before m : Reading} {left now next : Option (List ℕ)} (at : Streamed before left m now) where
  pub streamed-end : (buffer : List ℕ) (n : ℕ) → Consumes now next (take n buffer) → n ≡ 0 → Streamed before left m next
  streamed-end buffer n consumes none =
      let nothing : take n buffer ≡ [] = ap (λ (k : ℕ). take k buffer) none in
      streamed-more at (take n buffer) consumes (λ text read. subst (λ t. IsRead t m) (sym (ap (λ xs. text ++ xs) nothing ∙ append-nil text)) read)
