-- What calls change, as contracts see it.
use mathlib.Core.Path.{fun_ext}
use Rattle.std.proofs.Common.{◌≡◌, ◌≢◌, ℕ, suc, ◌+◌, ◌<◌, ◌≤◌, List, [], ◌∷◌, ◌++◌, length, false, refl, sym, ◌∙◌, ap, subst, arith, inl, inr}
use Rattle.std.specs.Prelude.{◌⊎◌, Option, Some, None, option_map, slice_get, Contains, Result, Ok, Err}
use Rattle.std.specs.List.{remove}
use Rattle.std.specs.Result.{OnErr}
use Rattle.std.proofs.lemmas.Bool.{cases_eq}
use Rattle.vk_types.specs.declared.handles.Kind.{Kind}
use Rattle.vk_types.specs.declared.handles.Kind.TheVariants.{Buffer, Image}
use Rattle.vk_types.specs.declared.ops.Node.{Node}
use Rattle.vk_model.specs.Fitting.{size_of}
use Rattle.vk_model.specs.Log.{Command, IsReady}
use Rattle.vk_model.specs.Meaning.{apply, ContentsAgree}
use Rattle.vk_objects.specs.declared.objects.Object.{Object}
use Rattle.vk_objects.specs.declared.objects.Objects.{Objects}
use Rattle.vk_objects.specs.Objects as store
use Rattle.vk_objects.specs.Undefined.{KeepsUndefined}
use Rattle.vk_ready.specs.declared.nodes.WaitingNode.{WaitingNode}
use Rattle.vk_ready.specs.Ready.{edge, ready_place, ready_places}
use Rattle.vk_machine.specs.Choices.{chosen, next_choice}
use Rattle.vk_machine.specs.Turns.{TurnsByChoice}
use Rattle.vk_device.specs.declared.logged.Logged.{Logged}
use Rattle.vk_device.specs.declared.logged.Logged.TheVariants.{Ran}
use Rattle.vk_device.specs.declared.logged.Turned.{Turned}
use Rattle.vk_device.specs.Journal.{kind_of, ReachesTo}
use Rattle.vk_device.specs.Order.{log_of, order_of, kinds_of, contents, AllRan}
use Rattle.vk_device.specs.Effects.{ChangesNothing, ChangesOnly, Executes, HasTurned}
use Rattle.vk_device.proofs.Fitting.{fits_lives}
use Rattle.vk_machine.specs.Machine.{MachineModel, Keeps, AreLeft, LiesAt, stored_in, bytes_at, journal_of, bytes_in, waiting_from, RunsReady, LeavesUndefined}
use Rattle.vk_machine.proofs.Stored.{stored_bytes}
use Rattle.vk_machine.proofs.Keeping.{ready, agree, kept}

-- an entry behind a journal
pub at_end : (P : List Logged → Type 0) (journal reserved now : List Logged) (entry : Logged) → now ≡ reserved ++ entry ∷ [] → reserved ≡ journal → P (journal ++ entry ∷ []) → P now
at_end P journal reserved now entry is room p = subst P (sym (is ∙ ap (λ j. j ++ entry ∷ []) room)) p

module _ (old new : MachineModel) (objects more : Objects) (old_is : old.stored ≡ stored_in objects) (new_is : new.stored ≡ stored_in more) where
  pub old_bytes : (id : ℕ) → bytes_in old id ≡ store.bytes_of objects id
  old_bytes id = ap (λ s. bytes_at s id) old_is ∙ stored_bytes objects id

  pub new_bytes : (id : ℕ) → bytes_in new id ≡ store.bytes_of more id
  new_bytes id = ap (λ s. bytes_at s id) new_is ∙ stored_bytes more id

  same : (id : ℕ) → store.object_at more id ≡ store.object_at objects id → bytes_in new id ≡ bytes_in old id
  same id is = new_bytes id ∙ ap store.bytes_in is ∙ sym (old_bytes id)

  pub changes_nothing : new.journal ≡ old.journal → ((id : ℕ) → store.object_at more id ≡ store.object_at objects id) → ChangesNothing journal_of bytes_in old new
  changes_nothing logged all = record { logged = logged; others = λ id. same id (all id) }

  pub changes_only : (id : ℕ) (entry : Logged) → new.journal ≡ old.journal ++ entry ∷ [] → ((i : ℕ) → i ≢ id → store.object_at more i ≡ store.object_at objects i) → ChangesOnly journal_of bytes_in old new id entry
  changes_only id entry logged others = record { logged = logged; others = λ i differs. same i (others i differs) }

  pub changes_turned : (w : WaitingNode) → new.journal ≡ old.journal ++ Ran w.batch w.node ∷ []
      → (waiting : List WaitingNode) (made batches : ℕ) (keeps : Keeps old.journal objects waiting made batches) (t : ℕ) (at : slice_get waiting t ≡ Some w)
      (free : (j : ℕ) (v : WaitingNode) → j < t → slice_get waiting j ≡ Some v → edge v w ≡ false) → store.Executes objects more w.command → Executes journal_of bytes_in old new w.batch w.node
  changes_turned w logged waiting made batches keeps t at free ran = record {
    logged = logged;
    command = w.command;
    is = (keeps.left.each t w at).is;
    queue = w.queue;
    at = (keeps.left.each t w at).at;
    live = fits_lives (kind_of old.journal) w.command (keeps.left.each t w at).fits;
    ready = ready old.journal objects more waiting made batches keeps t w at free;
    agree =
        subst (λ (b : ℕ → List ℕ). ContentsAgree (contents b) (apply (kinds_of old.journal) (Command w.queue w.command) (contents (bytes_in old)))) (fun_ext (λ id. sym (new_bytes id)))
        (subst (λ (b : ℕ → List ℕ). ContentsAgree (contents (store.bytes_of more)) (apply (kinds_of old.journal) (Command w.queue w.command) (contents b))) (fun_ext (λ id. sym (old_bytes id)))
        (agree old.journal objects more waiting made batches keeps t w at free ran));
    sizes = λ id. ap length (new_bytes id) ∙ ran.sizes id ∙ ap length (sym (old_bytes id));
  }

  pub kept_turned : (w : WaitingNode) (waiting : List WaitingNode) (made batches : ℕ) (keeps : Keeps old.journal objects waiting made batches) (t : ℕ) (at : slice_get waiting t ≡ Some w)
      (free : (j : ℕ) (v : WaitingNode) → j < t → slice_get waiting j ≡ Some v → edge v w ≡ false) → store.Executes objects more w.command → LeavesUndefined old new w
  kept_turned w waiting made batches keeps t at free ran =
      subst (λ (b : ℕ → List ℕ). KeepsUndefined (contents (bytes_in old)) (contents b) (apply (kinds_of old.journal) (Command w.queue w.command) (contents (bytes_in old)))) (fun_ext (λ id. sym (new_bytes id)))
      (subst (λ (b : ℕ → List ℕ). KeepsUndefined (contents b) (contents (store.bytes_of more)) (apply (kinds_of old.journal) (Command w.queue w.command) (contents b))) (fun_ext (λ id. sym (old_bytes id)))
      (kept old.journal objects more waiting made batches keeps t w at free ran))

-- an object that is set twice
pub sets_twice : (a b c : Objects) (id : ℕ) (xs ys : List ℕ) → store.SetsBytes a b id xs → store.SetsBytes b c id ys → store.SetsBytes a c id ys
sets_twice a b c id xs ys one two = record {
  here = two.here;
  kind = two.kind ∙ one.kind;
  others = λ other differs. two.others other differs ∙ one.others other differs;
  count = two.count ∙ one.count;
}

-- nothing waits where nothing is ready
pub all_ran : (journal : List Logged) (waiting : List WaitingNode) → AreLeft journal waiting → length waiting ≡ 0 → AllRan journal
all_ran journal waiting left none k lt = done (left.all k lt)
  where
    none_at : (waiting : List WaitingNode) → length waiting ≡ 0 → (k : ℕ) (w : WaitingNode) → slice_get waiting k ≡ Some w → ⊥
    none_at [] none k w at = let no : ◌≡◌ {A = Option WaitingNode} None (Some w) = at in absurd (cc)
    none_at (v ∷ waiting) none k w at = absurd (omega (arith, none))

    done : Contains (order_of journal) k ⊎ LiesAt journal waiting k → Contains (order_of journal) k
    done (inl c) = c
    done (inr lies) = absurd (none_at waiting none lies.k lies.node lies.at)

-- a turn, whatever the choice is
pub turned : (old other new : MachineModel) (number : ℕ) (result : Turned) → other.journal ≡ old.journal → other.stored ≡ old.stored → RunsReady other new number result → HasTurned journal_of bytes_in old new (Ok result)
turned old other new number result journal_is stored_is ran =
    subst (λ t. HasTurned journal_of bytes_in old new (Ok t)) (sym ran.turned_is) (record {
      logged = ran.executes.logged ∙ ap (λ j. j ++ Ran ran.node.batch ran.node.node ∷ []) journal_is;
      command = ran.executes.command;
      is = subst (λ j. Rattle.vk_device.specs.Journal.node_at (Rattle.vk_device.specs.Journal.accepted j) ran.node.batch ran.node.node ≡ Some ran.executes.command) journal_is ran.executes.is;
      queue = ran.executes.queue;
      at = subst (λ j. slice_get (log_of j) (Rattle.vk_device.specs.Order.place_of j ran.node.batch ran.node.node) ≡ Some (Command ran.executes.queue ran.executes.command)) journal_is ran.executes.at;
      live = subst (λ j. Rattle.vk_device.specs.Journal.TouchesLive (kind_of j) ran.executes.command) journal_is ran.executes.live;
      ready = subst (λ j. IsReady (log_of j) (order_of j) (Rattle.vk_device.specs.Order.place_of j ran.node.batch ran.node.node)) journal_is ran.executes.ready;
      agree =
          subst (λ j. ContentsAgree (contents (bytes_in new)) (apply (kinds_of j) (Command ran.executes.queue ran.executes.command) (contents (bytes_in old)))) journal_is
          (subst (λ s. ContentsAgree (contents (bytes_in new)) (apply (kinds_of other.journal) (Command ran.executes.queue ran.executes.command) (contents (bytes_at s)))) stored_is ran.executes.agree);
      sizes = λ id. ran.executes.sizes id ∙ ap (λ s. length (bytes_at s id)) stored_is;
    })

-- a range that the journal allows lies in the bytes
pub lies_inside : (journal : List Logged) (objects : Objects) (waiting : List WaitingNode) (made batches id end : ℕ) → Keeps journal objects waiting made batches → ReachesTo (kind_of journal id) end → end ≤ length (store.bytes_of objects id)
lies_inside journal objects waiting made batches id end keeps reaches = go (kind_of journal id) reaches (keeps.order.sizes id)
  where
    go : (o : Option Kind) → ReachesTo o end → ((kind : Kind) → o ≡ Some kind → length (store.bytes_of objects id) ≡ size_of kind) → end ≤ length (store.bytes_of objects id)
    go None to size = absurd to
    go (Some (Image format width height)) to size = absurd to
    go (Some (Buffer n)) to size = omega (arith, to, size (Buffer n) refl)

pub one_fewer : (t : ℕ) (w : WaitingNode) (waiting fewer : List WaitingNode) → slice_get waiting t ≡ Some w → fewer ≡ remove waiting t → length fewer + 1 ≡ length waiting
one_fewer t w waiting fewer at is = ap (λ l. length l + 1) is ∙ Rattle.std.proofs.lemmas.List.Edits.length-remove waiting t (Rattle.std.proofs.lemmas.Option.slice_get_within waiting t w at)

pub none_ready : (ready count : ℕ) → ready ≡ 0 → Rattle.std.specs.Prelude.◌↔◌ (0 < ready) (0 < count) → count ≡ 0
none_ready ready count none some = elim (cases_eq count 0) [
  | inl is ↦ is
  | inr more ↦ absurd (omega (arith, none, some.1 (omega (arith, more))))
]

pub on_err : {T E P : Type 0} (r : Result T E) → P → OnErr r P
on_err (Ok x) p = tt
on_err (Err e) p = p

-- one node more
pub waiting_from-push : (batch node queue : ℕ) (nodes : List Node) (n : Node) → waiting_from batch node queue (nodes ++ n ∷ []) ≡ waiting_from batch node queue nodes ++ (record { batch = batch; node = node + length nodes; queue = queue; command = n }) ∷ []
waiting_from-push batch node queue [] n = let same : node ≡ node + 0 = omega arith in ap (λ k. (record { batch = batch; node = k; queue = queue; command = n }) ∷ []) same
waiting_from-push batch node queue (m ∷ nodes) n =
    let same : suc node + length nodes ≡ node + length (m ∷ nodes) = omega arith in
    ap (λ l. (record { batch = batch; node = node; queue = queue; command = m }) ∷ l) (waiting_from-push batch (suc node) queue nodes n ∙ ap (λ k. waiting_from batch (suc node) queue nodes ++ (record { batch = batch; node = k; queue = queue; command = n }) ∷ []) same)

pub runs_ready : (seen old new : MachineModel) (objects more : Objects) → seen ≡ old → seen.stored ≡ stored_in objects → new.stored ≡ stored_in more → (number : ℕ) (w : WaitingNode) → slice_get seen.waiting (ready_place seen.waiting number) ≡ Some w → new.journal ≡ seen.journal ++ Ran w.batch w.node ∷ []
    → (made batches : ℕ) → Keeps seen.journal objects seen.waiting made batches → ((j : ℕ) (v : WaitingNode) → j < ready_place seen.waiting number → slice_get seen.waiting j ≡ Some v → edge v w ≡ false) → store.Executes objects more w.command
    → new.waiting ≡ remove seen.waiting (ready_place seen.waiting number) → RunsReady old new number (Turned.Ran w.batch w.node)
runs_ready seen old new objects more is old_is new_is number w at logged made batches keeps free ran others = subst (λ m. RunsReady m new number (Turned.Ran w.batch w.node)) is (record {
  node = w;
  at = at;
  turned_is = refl;
  executes = changes_turned seen new objects more old_is new_is w logged seen.waiting made batches keeps (ready_place seen.waiting number) at free ran;
  kept = kept_turned seen new objects more old_is new_is w seen.waiting made batches keeps (ready_place seen.waiting number) at free ran;
  waiting = others;
})

-- a new device
pub keeps_nothing : (journal : List Logged) (objects : Objects) (waiting : List WaitingNode) → journal ≡ [] → ((id : ℕ) → store.object_at objects id ≡ None) → waiting ≡ [] → Keeps journal objects waiting 0 0
keeps_nothing journal objects waiting is none empty =
    subst (λ j. Keeps j objects waiting 0 0) (sym is) (subst (λ w. Keeps [] objects w 0 0) (sym empty) (record {
      order = Rattle.vk_device.proofs.Running.in_order_at_first (store.bytes_of objects);
      live = λ id. ap (option_map (λ (x : Object). x.kind)) (none id) ∙ sym (Rattle.vk_device.proofs.Laws.kind_of-nil id);
      sized = λ id. subst (λ o. store.HasSize (option_map (λ (x : Object). x.kind) o) (store.bytes_in o)) (sym (none id)) refl;
      fresh = λ id past. Rattle.vk_device.proofs.Laws.creates_of-nil id;
      made_is = sym Rattle.vk_device.proofs.Laws.creates-nil;
      few = omega arith;
      batches_is = sym (ap length Rattle.vk_device.proofs.Starts.accepted-nil);
      few_batches = omega arith;
      left = record {
        each = λ k w at. let no : ◌≡◌ {A = Option WaitingNode} None (Some w) = at in absurd (cc);
        all = λ place lt. absurd (omega (arith, lt, ap length Rattle.vk_device.proofs.Orders.log_of-nil));
        rising = λ j k v w lt at_j at_k. let no : ◌≡◌ {A = Option WaitingNode} None (Some v) = at_j in absurd (cc);
      };
    }))

pub length-waiting_from : (batch node queue : ℕ) (nodes : List Node) → length (waiting_from batch node queue nodes) ≡ length nodes
length-waiting_from batch node queue [] = refl
length-waiting_from batch node queue (n ∷ nodes) = ap suc (length-waiting_from batch (suc node) queue nodes)

-- the node that was chosen, whatever result names it
pub by_choice : (old seen other new : MachineModel) (number : ℕ) (result : Turned) → seen ≡ old → other.journal ≡ seen.journal → other.stored ≡ seen.stored → other.waiting ≡ seen.waiting → number ≡ chosen seen.choice (length (ready_places seen.waiting)) → other.choice ≡ next_choice seen.choice → new.choice ≡ other.choice → RunsReady other new number result → TurnsByChoice old new (Ok result)
by_choice old seen other new number result is journal_is stored_is waiting_is number_is next same ran =
    subst (λ m. TurnsByChoice m new (Ok result)) is (subst (λ t. TurnsByChoice seen new (Ok t)) (sym ran.turned_is) (record {
      waiting_node = ran.node;
      at = subst (λ w. slice_get w (ready_place w (chosen seen.choice (length (ready_places seen.waiting)))) ≡ Some ran.node) waiting_is (subst (λ n. slice_get other.waiting (ready_place other.waiting n) ≡ Some ran.node) number_is ran.at);
      batch_is = refl;
      node_is = refl;
      waiting = ran.waiting ∙ ap (λ w. remove w (ready_place w number)) waiting_is ∙ ap (λ n. remove seen.waiting (ready_place seen.waiting n)) number_is;
      kept =
          subst (λ j. KeepsUndefined (contents (bytes_in seen)) (contents (bytes_in new)) (apply (kinds_of j) (Command ran.node.queue ran.node.command) (contents (bytes_in seen)))) journal_is
          (subst (λ s. KeepsUndefined (contents (bytes_at s)) (contents (bytes_in new)) (apply (kinds_of other.journal) (Command ran.node.queue ran.node.command) (contents (bytes_at s)))) stored_is ran.kept);
      choice = same ∙ next;
    }))
