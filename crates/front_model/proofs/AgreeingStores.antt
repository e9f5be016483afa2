-- What agrees with the state after a call that changes one store and no image.
use Rattle.std.proofs.Common.{◌≡◌, ℕ, ◌==◌, Bool, true, false, cond, Option, Some, None, [], is_some, unwrap_or, refl, ap, sym, ◌∙◌, arith, if◌then◌else◌}
use Rattle.std.specs.Option.{option_map}
use Rattle.std.specs.List.{list_any}
use Rattle.std.proofs.lemmas.Grind.{common_steps}
use Rattle.cells.specs.Contents.{Content}
use Rattle.gl_calls.specs.declared.call.Call.{Call}
use Rattle.tables.specs.Table.{Entries, entry, has}
use Rattle.gl_model.specs.declared.state.Attachment.{Attachment}
use Rattle.gl_model.specs.declared.state.Attachment.TheVariants as attachments
use Rattle.gl_model.specs.Bindings.{same_attachment, same_option}
use Rattle.gl_model.specs.GroupEffect.{group_effect}
use Rattle.gl_model.specs.GroupModel.{GroupModel, Store}
use Rattle.gl_model.specs.Effect.{effect, gl_contents, in_context, change_store, store_of, empty_store}
use Rattle.gl_model.specs.Reached.{before_the_sweep, changed_buffer, changed_images, cells_of, image_exists, texture_of, renderbuffer_of}
use Rattle.gl_model.proofs.TableLaws.{entry-keyed}
use Rattle.front_model.specs.declared.object.Object.{Object}
use Rattle.front_model.specs.declared.object.Object.TheVariants.{Buffer, Texture, Renderbuffer}
use Rattle.front_model.specs.Face.{put_object}
use Rattle.front_model.specs.Wanted.{wanted, AgreeWith}
use Rattle.front_model.proofs.AgreeingCells.{Right, Fades, Right-gone, Right-same, Right-faded}

-- What is known of an effect

abbrev pub Projects : Type 0
Projects = (state : GroupModel) (thread : ℕ) (call : Call) (place : ℕ) → (effect state thread call place).group ≡ group_effect state.group thread call

abbrev pub Writes : Type 0
Writes = (state : GroupModel) (thread : ℕ) (call : Call) (place b : ℕ) → has b (group_effect state.group thread call).buffers ≡ true → store_of (effect state thread call place) b ≡ store_of (in_context gl_contents state thread call) b

abbrev pub LeavesStores : Type 0
LeavesStores = (state : GroupModel) (thread : ℕ) (call : Call) (place b : ℕ) → has b (group_effect state.group thread call).buffers ≡ true → same_option (changed_buffer state.group thread call) (Some b) ≡ false → store_of (effect state thread call place) b ≡ store_of state b

abbrev pub ChangesOne : Type 0
ChangesOne = (state : GroupModel) (b : ℕ) (change : Store → Store) (c : ℕ) → store_of (change_store state (Some b) change) c ≡ (if c == b then change (store_of state b) else store_of state c)

abbrev pub LeavesImages : Type 0
LeavesImages = (state : GroupModel) (thread : ℕ) (call : Call) (place : ℕ) (image : Attachment) → image_exists (group_effect state.group thread call) image ≡ true → list_any (same_attachment image) (changed_images state.group thread call) ≡ false → cells_of (effect state thread call place) image ≡ cells_of state image

pub record Laws : Type 0 where
  pub projects : Projects
  pub writes : Writes
  pub leaves_stores : LeavesStores
  pub changes_one : ChangesOne
  pub leaves_images : LeavesImages

-- an entry that is not kept is read as its default
none_kept : {V W : Type 0} (f : ℕ → W) (k : ℕ) (table : Entries V) (d : W) → has k table ≡ false → unwrap_or (option_map (λ _. f k) (entry k table)) d ≡ d
none_kept {V} f k table d absent = by_entry (entry k table) absent
  where
    by_entry : (o : Option V) → is_some o ≡ false → unwrap_or (option_map (λ _. f k) o) d ≡ d
    by_entry None h = refl
    by_entry (Some v) h = let bad : ⊥ = cc in absurd bad

module _ (laws : Laws) (state : GroupModel) (thread : ℕ) (asked : Call) (place : ℕ) where
  -- What no longer exists has no cells

  gone_store : (b : ℕ) → has b (group_effect state.group thread asked).buffers ≡ false → (store_of (effect state thread asked place) b).cells ≡ []
  gone_store b absent =
      let stored = before_the_sweep state thread asked place in
      let absent' : has b stored.group.buffers ≡ false = ap (λ g. has b g.buffers) (laws.projects state thread asked place) ∙ absent in
      ap (λ o. (unwrap_or o empty_store).cells) (entry-keyed (store_of stored) b stored.group.buffers)
      ∙ ap (λ s. s.cells) (none_kept (store_of stored) b stored.group.buffers empty_store absent')

  gone_texture : (t : ℕ) → has t (group_effect state.group thread asked).textures ≡ false → texture_of (effect state thread asked place) t ≡ []
  gone_texture t absent =
      let stored = before_the_sweep state thread asked place in
      let absent' : has t stored.group.textures ≡ false = ap (λ g. has t g.textures) (laws.projects state thread asked place) ∙ absent in
      ap (λ o. unwrap_or o []) (entry-keyed (texture_of stored) t stored.group.textures) ∙ none_kept (texture_of stored) t stored.group.textures [] absent'

  gone_renderbuffer : (r : ℕ) → has r (group_effect state.group thread asked).renderbuffers ≡ false → renderbuffer_of (effect state thread asked place) r ≡ []
  gone_renderbuffer r absent =
      let stored = before_the_sweep state thread asked place in
      let absent' : has r stored.group.renderbuffers ≡ false = ap (λ g. has r g.renderbuffers) (laws.projects state thread asked place) ∙ absent in
      ap (λ o. unwrap_or o []) (entry-keyed (renderbuffer_of stored) r stored.group.renderbuffers) ∙ none_kept (renderbuffer_of stored) r stored.group.renderbuffers [] absent'

  -- what holds at each object that there still is
  buffer_right : (b : ℕ) (seen : ℕ → ℕ) (content : Content) → (has b (group_effect state.group thread asked).buffers ≡ true → (store_of (effect state thread asked place) b).cells ≡ content) → Right seen content → Right seen (store_of (effect state thread asked place) b).cells
  buffer_right b seen content is right = by_case (has b (group_effect state.group thread asked).buffers) refl
    where
      by_case : (t : Bool) → has b (group_effect state.group thread asked).buffers ≡ t → Right seen (store_of (effect state thread asked place) b).cells
      by_case true there = Right-same seen (store_of (effect state thread asked place) b).cells content (is there) right
      by_case false there = Right-gone seen (store_of (effect state thread asked place) b).cells (gone_store b there)

  module _ (images : changed_images state.group thread asked ≡ []) where
    none_changed : (image : Attachment) → list_any (same_attachment image) (changed_images state.group thread asked) ≡ false
    none_changed image = ap (list_any (same_attachment image)) images

    texture_right : (t : ℕ) (seen : ℕ → ℕ) → Right seen (texture_of state t) → Right seen (texture_of (effect state thread asked place) t)
    texture_right t seen right = by_case (has t (group_effect state.group thread asked).textures) refl
      where
        by_case : (b : Bool) → has t (group_effect state.group thread asked).textures ≡ b → Right seen (texture_of (effect state thread asked place) t)
        by_case true there = Right-same seen (texture_of (effect state thread asked place) t) (texture_of state t) (laws.leaves_images state thread asked place (attachments.Texture t) there (none_changed (attachments.Texture t))) right
        by_case false there = Right-gone seen (texture_of (effect state thread asked place) t) (gone_texture t there)

    renderbuffer_right : (r : ℕ) (seen : ℕ → ℕ) → Right seen (renderbuffer_of state r) → Right seen (renderbuffer_of (effect state thread asked place) r)
    renderbuffer_right r seen right = by_case (has r (group_effect state.group thread asked).renderbuffers) refl
      where
        by_case : (b : Bool) → has r (group_effect state.group thread asked).renderbuffers ≡ b → Right seen (renderbuffer_of (effect state thread asked place) r)
        by_case true there = Right-same seen (renderbuffer_of (effect state thread asked place) r) (renderbuffer_of state r) (laws.leaves_images state thread asked place (attachments.Renderbuffer r) there (none_changed (attachments.Renderbuffer r))) right
        by_case false there = Right-gone seen (renderbuffer_of (effect state thread asked place) r) (gone_renderbuffer r there)

    -- A call that changes one store: what is seen of it is right, and what is seen of the others stays so.
    pub put_agrees : (b : ℕ) (change : Store → Store) (seen : Object → ℕ → ℕ) (shown : ℕ → ℕ) → in_context gl_contents state thread asked ≡ change_store state (Some b) change → Right shown (change (store_of state b)).cells → AgreeWith seen (wanted state) → AgreeWith (put_object seen (Buffer b) shown) (wanted (effect state thread asked place))
    unfolding put_object
    put_agrees b change seen shown is right agree (Buffer c) =
        let content : Content = cond (c == b) (change (store_of state b)).cells (store_of state c).cells in
        buffer_right c (cond (c == b) shown (seen (Buffer c))) content
        (λ there. ap (λ s. s.cells) (laws.writes state thread asked place c there ∙ ap (λ s. store_of s c) is ∙ laws.changes_one state b change c) ∙ chosen (c == b))
        (by_case (c == b))
      where
        chosen : (t : Bool) → (cond t (change (store_of state b)) (store_of state c)).cells ≡ cond t (change (store_of state b)).cells (store_of state c).cells
        chosen true = refl
        chosen false = refl

        by_case : (t : Bool) → Right (cond t shown (seen (Buffer c))) (cond t (change (store_of state b)).cells (store_of state c).cells)
        by_case true = right
        by_case false = agree (Buffer c)
    put_agrees b change seen shown is right agree (Texture t) = texture_right t (seen (Texture t)) (agree (Texture t))
    put_agrees b change seen shown is right agree (Renderbuffer r) = renderbuffer_right r (seen (Renderbuffer r)) (agree (Renderbuffer r))

    -- A call that makes cells of one store undefined at most.
    pub fade_agrees : (bound : Option ℕ) (change : Store → Store) (seen : Object → ℕ → ℕ) → in_context gl_contents state thread asked ≡ change_store state bound change → ((b : ℕ) → bound ≡ Some b → Fades (store_of state b).cells (change (store_of state b)).cells) → AgreeWith seen (wanted state) → AgreeWith seen (wanted (effect state thread asked place))
    fade_agrees bound change seen is fades agree (Buffer c) = by_bound bound is fades
      where
        by_bound : (o : Option ℕ) → in_context gl_contents state thread asked ≡ change_store state o change → ((b : ℕ) → o ≡ Some b → Fades (store_of state b).cells (change (store_of state b)).cells) → Right (seen (Buffer c)) (store_of (effect state thread asked place) c).cells
        by_bound None is fades =
            buffer_right c (seen (Buffer c)) (store_of state c).cells (λ there. ap (λ s. s.cells) (laws.writes state thread asked place c there ∙ ap (λ s. store_of s c) is)) (agree (Buffer c))
        by_bound (Some b) is fades =
            let content : Content = cond (c == b) (change (store_of state b)).cells (store_of state c).cells in
            buffer_right c (seen (Buffer c)) content
            (λ there. ap (λ s. s.cells) (laws.writes state thread asked place c there ∙ ap (λ s. store_of s c) is ∙ laws.changes_one state b change c) ∙ chosen (c == b))
            (by_case (c == b) refl)
          where
            chosen : (t : Bool) → (cond t (change (store_of state b)) (store_of state c)).cells ≡ cond t (change (store_of state b)).cells (store_of state c).cells
            chosen true = refl
            chosen false = refl

            same_key : (m n : ℕ) → (m == n) ≡ true → m ≡ n
            same_key m n h = grind (arith, common_steps)

            by_case : (t : Bool) → (c == b) ≡ t → Right (seen (Buffer c)) (cond t (change (store_of state b)).cells (store_of state c).cells)
            by_case true same =
                Right-faded (seen (Buffer c)) (store_of state b).cells (change (store_of state b)).cells (fades b refl)
                (Right-same (seen (Buffer c)) (store_of state b).cells (store_of state c).cells (ap (λ k. (store_of state k).cells) (sym (same_key c b same))) (agree (Buffer c)))
            by_case false same = agree (Buffer c)
    fade_agrees bound change seen is fades agree (Texture t) = texture_right t (seen (Texture t)) (agree (Texture t))
    fade_agrees bound change seen is fades agree (Renderbuffer r) = renderbuffer_right r (seen (Renderbuffer r)) (agree (Renderbuffer r))

    -- A call that changes no store.
    pub other_agrees : (seen : Object → ℕ → ℕ) → changed_buffer state.group thread asked ≡ None → AgreeWith seen (wanted state) → AgreeWith seen (wanted (effect state thread asked place))
    other_agrees seen none agree (Buffer c) =
        buffer_right c (seen (Buffer c)) (store_of state c).cells (λ there. ap (λ s. s.cells) (laws.leaves_stores state thread asked place c there (ap (λ o. same_option o (Some c)) none))) (agree (Buffer c))
    other_agrees seen none agree (Texture t) = texture_right t (seen (Texture t)) (agree (Texture t))
    other_agrees seen none agree (Renderbuffer r) = renderbuffer_right r (seen (Renderbuffer r)) (agree (Renderbuffer r))
