-- The words of items, of changes and of commands, each after a space.
use Rattle.std.proofs.Common.{arith}
use Rattle.std.proofs.lemmas.Bool.Decides.{nat_tests}
use Rattle.std.proofs.Common.{◌≡◌, ℕ, ◌+◌, ◌<◌, List, [], ◌∷◌, ◌++◌, refl, ap, sym, ◌∙◌, codes, length, get_or, take}
use Rattle.std.proofs.Common.{append-nil}
use Rattle.std.specs.List.{flat_map}
use Rattle.std.proofs.lemmas.List.{take_more}
use Rattle.std.proofs.lemmas.List.Concat.{flat_map-append}
use Rattle.vac_model.specs.declared.commands.Command.{Command}
use Rattle.vac_model.specs.declared.commands.Command.TheVariants as command
use Rattle.vac_model.specs.TaskText.{spaced, words_text, command_words, further_words, changes_words}

spaced_both : (ws vs : List (List ℕ)) → spaced (ws ++ vs) ≡ spaced ws ++ spaced vs
spaced_both ws vs = flat_map-append (λ word. codes " " ++ word) ws vs

-- the words of all items after spaces are those of each item, one item after another
pub spaced_each : {X : Type 0} (words : X → List (List ℕ)) (xs : List X) →
    flat_map (λ x. spaced (words x)) xs ≡ spaced (flat_map words xs)
spaced_each words [] = refl
spaced_each words (x ∷ xs) =
    ap (λ t. spaced (words x) ++ t) (spaced_each words xs) ∙ sym (spaced_both (words x) (flat_map words xs))

-- the words of a command after a space are those words, each after a space
command_spaced : (c : Command) → codes " " ++ words_text (command_words c) ≡ spaced (command_words c)
command_spaced (command.Add kind id num price) = refl
command_spaced (command.Delete kind id num) = refl
command_spaced (command.DropFlight id) = refl
command_spaced (command.NewCustomer id) = refl
command_spaced (command.DropCustomer id) = refl
command_spaced (command.Free kind id) = refl
command_spaced (command.Price kind id) = refl
command_spaced (command.Bill id) = refl
command_spaced (command.Reserve customer kind id units) = refl
command_spaced (command.Cancel customer kind id) = refl
command_spaced command.Audit = refl

flat_more : {X A : Type 0} (f : X → List A) (xs : List X) (i : ℕ) (d : X) → i < length xs →
    flat_map f (take i xs) ++ f (get_or xs i d) ≡ flat_map f (take (i + 1) xs)
flat_more f xs i d h =
    ap (λ t. flat_map f (take i xs) ++ t) (sym (append-nil (f (get_or xs i d))))
    ∙ sym (flat_map-append f (take i xs) (get_or xs i d ∷ [])) ∙ ap (flat_map f) (sym (take_more xs i d h))

-- the words of one more change after a separator
pub change_more : (changes : List Command) (i : ℕ) (d : Command) → i < length changes →
    flat_map (λ c. spaced (further_words c)) (take i changes) ++
    (codes " ; " ++ words_text (command_words (get_or changes i d)))
    ≡ flat_map (λ c. spaced (further_words c)) (take (i + 1) changes)
change_more changes i d h =
    ap (λ t. flat_map (λ c. spaced (further_words c)) (take i changes) ++ (codes " ;" ++ t))
    (command_spaced (get_or changes i d))
    ∙ flat_more (λ c. spaced (further_words c)) changes i d h

-- the words of changes: those of the first after a space, then those of the others
pub changes_spaced : (first : Command) (rest : List Command) →
    (codes " " ++ words_text (command_words first)) ++ flat_map (λ c. spaced (further_words c)) rest
    ≡ spaced (changes_words (first ∷ rest))
changes_spaced first rest = grind (
  arith,
  nat_tests,
  command_spaced first,
  spaced_each further_words rest,
  spaced_both (command_words first) (flat_map further_words rest),
)
