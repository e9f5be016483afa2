-- The bytes of a running device.
use Rattle.std.proofs.Common.{◌≡◌, ℕ, ◌<◌, List, [], ◌∷◌, ◌++◌, sym, ◌∙◌, ap, subst, arith}
use Rattle.std.specs.Prelude.{Some, slice_get}
use Rattle.vk_types.specs.declared.handles.Kind.{Kind}
use Rattle.vk_model.specs.Cells.{Contents}
use Rattle.vk_model.specs.Log.{Item, IsPermitted, IsSound}
use Rattle.vk_model.specs.Meaning.{nothing, apply, eval, executed, IsSettled, ContentsAgree}
use Rattle.vk_model.proofs.Agreement.{agrees_after, agrees_through}
use Rattle.vk_model.proofs.Device.{executed_push}
use Rattle.vk_model.proofs.Order.{settled}

pub agrees_nothing : (bytes : Contents) → ContentsAgree bytes nothing
agrees_nothing bytes id i below = absurd (let no : 256 < 256 = below in omega arith)

pub agrees_runs : (kinds : ℕ → Kind) (log : List Item) (order : List ℕ) (k : ℕ) (x : Item) (old new : Contents) → slice_get log k ≡ Some x → ContentsAgree old (executed kinds log order) → ContentsAgree new (apply kinds x old) → ContentsAgree new (executed kinds log (order ++ k ∷ []))
agrees_runs kinds log order k x old new at agrees runs = subst (ContentsAgree new) (sym (executed_push kinds log order k x at)) (agrees_through new (apply kinds x old) (apply kinds x (executed kinds log order)) runs (agrees_after kinds x old (executed kinds log order) agrees))

pub agrees_reads : (kinds : ℕ → Kind) (log : List Item) (order : List ℕ) (id : ℕ) (bytes : Contents) → IsSound log → IsPermitted log order → IsSettled log order id → ContentsAgree bytes (executed kinds log order) → (i : ℕ) → eval kinds log id i < 256 → bytes id i ≡ eval kinds log id i
agrees_reads kinds log order id bytes sound permitted all agrees i below =
    let same : executed kinds log order id i ≡ eval kinds log id i = ap (λ f. f i) (settled kinds log order id sound permitted all) in
    agrees id i (subst (λ v. v < 256) (sym same) below) ∙ same
