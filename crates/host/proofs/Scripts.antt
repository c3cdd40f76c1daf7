-- One more line of a script.
use Rattle.std.proofs.Common.{◌≡◌, ℕ, suc, Bool, true, false, cond, List, [], ◌∷◌, ◌++◌, map, ◌+◌, refl, sym, ap, subst, ◌∙◌}
use Rattle.std.specs.Borrow.{Bor}
use Rattle.std.specs.List.{enumerate_from}
use Rattle.std.proofs.lemmas.List.{map-append}
use Rattle.stage.specs.declared.Stage.{Ghosts}
use Rattle.stage.specs.declared.codes.Codes.{Codes}
use Rattle.script.specs.declared.boards.Boards.{Boards}
use Rattle.host.specs.Scripts.{PlaysText, PlaysScript}

module _ {S R : Type 0} (m : Ghosts S) (n : Ghosts R) (look : S → Codes) (see : R → Codes) where
  count_after : (a b : Bool) (k : ℕ) → cond a (cond b k (suc k)) (suc (cond b k (suc k))) ≡ cond b (cond a k (suc k)) (suc (cond a k (suc k)))
  count_after true true k = refl
  count_after true false k = refl
  count_after false true k = refl
  count_after false false k = refl

  pub script_more : (ts : List (List ℕ)) (t : List ℕ) (readable : Bool) (k : ℕ) (x y z : Boards S R m n) → PlaysScript m n look see ts k x y
      → PlaysText m n look see t readable y z → PlaysScript m n look see (ts ++ (t ∷ [])) (cond readable k (suc k)) x z
  script_more [] t readable k x y z p q =
      (z, readable, 0, subst (λ (v : Boards S R m n). PlaysText m n look see t readable v z) (sym p.1) q, (refl, refl), ap (λ j. cond readable j (suc j)) p.0)
  script_more (u ∷ ts) t readable k x y z p q =
      (p.0, p.1, cond readable p.2 (suc p.2), p.3, script_more ts t readable p.2 p.0 y z p.4 q, ap (λ j. cond readable j (suc j)) p.5 ∙ count_after readable p.1 p.2)

  -- and so after an item of a numbered list of lines
  pub script_next : (items : List (ℕ × Bor (List ℕ))) (item : ℕ × Bor (List ℕ)) (readable : Bool) (k j : ℕ) (x y z : Boards S R m n)
      → j ≡ cond readable k (suc k) → PlaysScript m n look see (map (λ (it : ℕ × Bor (List ℕ)). it.1.now) items) k x y
      → PlaysText m n look see item.1.now readable y z
      → PlaysScript m n look see (map (λ (it : ℕ × Bor (List ℕ)). it.1.now) (items ++ (item ∷ []))) j x z
  script_next items item readable k j x y z e p q =
      let texts = map-append (λ (it : ℕ × Bor (List ℕ)). it.1.now) items (item ∷ []) in
      let more = script_more (map (λ (it : ℕ × Bor (List ℕ)). it.1.now) items) item.1.now readable k x y z p q in
      subst (λ (ts : List (List ℕ)). PlaysScript m n look see ts j x z) (sym texts) (subst (λ (i : ℕ). PlaysScript m n look see (map (λ (it : ℕ × Bor (List ℕ)). it.1.now) items ++ (item.1.now ∷ [])) i x z) (sym e) more)

-- the texts of a numbered list
pub texts_of : (i : ℕ) (items : List (ℕ × Bor (List ℕ))) (texts : List (List ℕ)) → map (λ (it : ℕ × Bor (List ℕ)). (it.0, it.1.now)) items ≡ enumerate_from i texts → map (λ (it : ℕ × Bor (List ℕ)). it.1.now) items ≡ texts
texts_of i [] [] e = refl
texts_of i [] (t ∷ ts) e = cc
texts_of i (it ∷ items) [] e = cc
texts_of i (it ∷ items) (t ∷ ts) e =
    let rest : map (λ (x : ℕ × Bor (List ℕ)). (x.0, x.1.now)) items ≡ enumerate_from (i + 1) ts = cc in
    let pair : ◌≡◌ {A = ℕ × List ℕ} (it.0, it.1.now) (i, t) = cc in
    let first = ap (λ (p : ℕ × List ℕ). p.1) pair in
    ap (λ (s : List ℕ). s ∷ map (λ (x : ℕ × Bor (List ℕ)). x.1.now) items) first ∙ ap (λ (xs : List (List ℕ)). t ∷ xs) (texts_of (i + 1) items ts rest)
