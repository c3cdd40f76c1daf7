-- One write after another.
use Rattle.std.proofs.Common.{◌≡◌, ℕ, ◌+◌, ◌-◌, ◌<◌, List, ◌++◌, length, take, sym, ap, ◌∙◌, subst, append_assoc, add_assoc, arith, length-append}
use Rattle.replay.specs.declared.out.Out.{Out}
use Rattle.replay.specs.Written.{Appends, HasNoRoom}

pub both : {o p q : Out} {a b : List ℕ} → Appends o p a → Appends p q b → Appends o q (a ++ b)
both {o = o} {p = p} {q = q} {a = a} {b = b} x y =
    record {
      len = y.len ∙ (ap (λ n. n + length b) x.len ∙ (add_assoc o.len (length a) (length b) ∙ ap (λ n. o.len + n) (sym (length-append a b))));
      size = y.size ∙ x.size;
      said = y.said ∙ (ap (λ z. z ++ b) x.said ∙ append_assoc (take o.len o.bytes.now) a b);
      lent = y.lent ∙ x.lent;
    }

-- the same bytes, in another form
pub being : {o p : Out} {a b : List ℕ} → Appends o p a → a ≡ b → Appends o p b
being {o = o} {p = p} x e = subst (λ z. Appends o p z) e x

-- a write that found no room
pub filled : {o q p : Out} {a b : List ℕ} → Appends o q a → HasNoRoom q p b → Appends o p a
filled {q = q} {p = p} x y =
    record {
      len = y.len ∙ x.len;
      size = ap length y.bytes ∙ x.size;
      said = ap (λ k. take k p.bytes.now) y.len ∙ (ap (take q.len) y.bytes ∙ x.said);
      lent = y.lent ∙ x.lent;
    }

pub crowded : {o q p : Out} {a b : List ℕ} → Appends o q a → HasNoRoom q p b → length o.bytes.now - o.len < length (a ++ b)
crowded {o = o} {a = a} {b = b} x y = omega (arith, o.within, x.len, x.size, y.short, length-append a b)
