-- The bytes to come, as a reader of chunks reads and cuts them.
use Rattle.std.proofs.Common.{◌≡◌, ℕ, List, [], ◌++◌, Option, Some, None, ap, sym, ◌∙◌, append_assoc, append-nil}
use Rattle.std.specs.Io.KnownBytes.{Consumes, IsAtEnd, Keeps, prepend_known}
use Rattle.line_chunks.specs.Pending.{AreAll}

-- bytes that are read become pending
pub keeps_read : (before after : Option (List ℕ)) (pending read new : List ℕ) → new ≡ pending ++ read → Consumes before after read
    → Keeps (prepend_known pending before) (prepend_known new after)
keeps_read None after pending read new is consumes = tt
keeps_read (Some xs) None pending read new is consumes = absurd consumes
keeps_read (Some xs) (Some ys) pending read new is consumes =
    ap (λ bytes. bytes ++ ys) is ∙ (append_assoc pending read ys ∙ ap (λ bytes. pending ++ bytes) (sym consumes))

-- bytes that were pending aren't any more
pub consumes_pending : (known : Option (List ℕ)) (pending taken left : List ℕ) → pending ≡ taken ++ left → Consumes (prepend_known pending known) (prepend_known left known) taken
consumes_pending None pending taken left is = tt
consumes_pending (Some xs) pending taken left is = ap (λ bytes. bytes ++ xs) is ∙ append_assoc taken left xs

-- some bytes, and, after a read, some more
pub consumes_more : (before between then after : Option (List ℕ)) (some more : List ℕ)
    → Consumes before between some → Keeps between then → Consumes then after more → Consumes before after (some ++ more)
consumes_more None between then after some more first keeps second = tt
consumes_more (Some xs) None then after some more first keeps second = absurd first
consumes_more (Some xs) (Some ys) None after some more first keeps second = absurd keeps
consumes_more (Some xs) (Some ys) (Some zs) None some more first keeps second = absurd second
consumes_more (Some xs) (Some ys) (Some zs) (Some ws) some more first keeps second =
    first ∙ (ap (λ bytes. some ++ bytes) (sym keeps ∙ second) ∙ sym (append_assoc some more ws))

-- some bytes, and, after a read, the end
pub consumes_all : (before between left : Option (List ℕ)) (some pending : List ℕ)
    → Consumes before between some → Keeps between (prepend_known pending left) → pending ≡ [] → IsAtEnd left → AreAll before some
consumes_all None between left some pending first keeps none end = tt
consumes_all (Some xs) None left some pending first keeps none end = absurd first
consumes_all (Some xs) (Some ys) None some pending first keeps none end = absurd keeps
consumes_all (Some xs) (Some ys) (Some zs) some pending first keeps none end =
    first ∙ (ap (λ bytes. some ++ bytes) (sym keeps ∙ (ap (λ bytes. bytes ++ zs) none ∙ end)) ∙ append-nil some)

-- at the end there are only pending bytes
pub all_pending : (left : Option (List ℕ)) (pending line : List ℕ) → pending ≡ line → IsAtEnd left → AreAll (prepend_known pending left) line
all_pending None pending line is end = tt
all_pending (Some xs) pending line is end = ap (λ bytes. pending ++ bytes) end ∙ (append-nil pending ∙ is)
