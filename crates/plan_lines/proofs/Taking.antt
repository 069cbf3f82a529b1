-- Laws of a piece of text whose lines are taken one by one. Assumes nothing.
use mathlib.Core.Path.{◌≡◌, refl, sym, ap, ◌∙◌, subst}
use mathlib.Core.Bool.{true}
use mathlib.Core.List.{List, [], ◌∷◌, ◌++◌, append_assoc, append-nil}
use Prim.Native.Nat.{ℕ, ◌+◌, ◌≤◌, ◌<◌}
use native.Mathlib.Numerals.{add-one}
use native.Mathlib.Omega.{arith}
use lib.ListN.{length, take, drop, length-drop}
use Rattle.text.specs.Fields.{lf, first_at}
use Rattle.plan_lines.specs.declared.Reading.{Reading}
use Rattle.plan_lines.specs.Pieces.{IsRead, IsReady}
use Rattle.plan_lines.proofs.Piecewise.{stays-broken}
use Rattle.text.proofs.Splitting.{part-without, split-first}

-- how far a piece was taken: the rest is its end, and what was taken before has been read
pub record Taken (before : Reading) (bytes : List ℕ) (m : Reading) (rest : List ℕ) : Type 0 where
  pub ready : IsReady m
  pub inside : length rest ≤ length bytes
  pub read : (text : List ℕ) → IsRead text before → (taken : List ℕ) × (taken ++ rest ≡ bytes) × IsRead (text ++ taken) m

pub taken-none : {m : Reading} {bytes : List ℕ} → IsReady m → Taken m bytes m bytes
taken-none {m = m} ready =
    record { ready = ready; inside = omega arith; read = λ text read. ([], refl, subst (λ t. IsRead t m) (sym (append-nil text)) read) }

module _ (rest : List ℕ) (e : ℕ) (p : (e ≡ first_at lf rest) × (e < length rest)) where
  pub part-no-lf : first_at lf (take e rest) ≡ length (take e rest)
  part-no-lf = rw p.0 (part-without lf rest)

  split : take e rest ++ (lf ∷ drop (e + 1) rest) ≡ rest
  split = rw (add-one, p.0) (split-first lf rest (omega arith))

module _ {before m after : Reading} {bytes rest : List ℕ} (at : Taken before bytes m rest) where
  module _ (e : ℕ) (p : (e ≡ first_at lf rest) × (e < length rest)) where
    pub taken-line : ((text : List ℕ) → IsRead text m → IsRead (text ++ (take e rest ++ (lf ∷ []))) after)
        → Taken before bytes after (drop (e + 1) rest)
    taken-line next =
        let (text, read) = at.ready in
        record {
          ready = (_, next text read);
          inside = omega (arith, at.inside, length-drop (e + 1) rest);
          read = λ text read.
              let (taken, all, so_far) = at.read text read in (
                taken ++ (take e rest ++ (lf ∷ [])),
                append_assoc taken (take e rest ++ (lf ∷ [])) (drop (e + 1) rest)
                    ∙ ap (λ xs. taken ++ xs) (append_assoc (take e rest) (lf ∷ []) (drop (e + 1) rest) ∙ split rest e p)
                    ∙ all,
                subst (λ t. IsRead t after) (append_assoc text taken (take e rest ++ (lf ∷ []))) (next (text ++ taken) so_far),
              );
        }

  -- and the rest goes on a line
  pub taken-all : ((text : List ℕ) → IsRead text m → IsRead (text ++ rest) after) → (text : List ℕ) → IsRead text before → IsRead (text ++ bytes) after
  taken-all next text read =
      let (taken, all, so_far) = at.read text read in
      subst (λ t. IsRead t after) (append_assoc text taken rest ∙ ap (λ xs. text ++ xs) all) (next (text ++ taken) so_far)

-- what broke the rules needs no more
pub taken-broken : {before m : Reading} {bytes rest : List ℕ} → Taken before bytes m rest → m.broken ≡ true → (text : List ℕ) → IsRead text before
    → IsRead (text ++ bytes) m
taken-broken {before} {m} {bytes} {rest} at b text read =
    let (taken, all, so_far) = at.read text read in
    subst (λ t. IsRead t m) (append_assoc text taken rest ∙ ap (λ xs. text ++ xs) all) (stays-broken so_far rest b)
