-- The part of a history on the scope that words name.
use Rattle.std.proofs.Common.{◌≡◌, ◌∙◌, refl, ap₂, subst, inl, ℕ, Option, Some, None, List}
use Rattle.std.specs.Prelude.{map}
use Rattle.std.specs.Borrow.{Bor}
use Rattle.judge_part_text.specs.Naming.{Named, names_of}
use Rattle.judge_options.specs.declared.asked.PartWords.{PartWords}
use Rattle.cli_judge.specs.Parting.{WritesPart, WritesPartIf, WritesPartOf, named_by}

abbrev texts_of : List (Bor (List ℕ)) → List (List ℕ)
texts_of words = map (λ word. word.now) words

same_names : (words : PartWords) (names : Option Named) (customers items : List (Bor (List ℕ))) →
    names ≡ names_of (texts_of customers) (texts_of items) → customers ≡ words.customers.items →
    items ≡ words.items.items → names ≡ named_by words
same_names words names customers items e f g =
    e ∙ ap₂ (λ cs is. names_of (texts_of cs) (texts_of is)) f g

pub named_as : (words : PartWords) (names : Named) (customers items : List (Bor (List ℕ))) (status : ℕ)
    (unread left held holds : Option (List ℕ)) → Some names ≡ names_of (texts_of customers) (texts_of items) →
    customers ≡ words.customers.items → items ≡ words.items.items →
    WritesPart names words.until status unread left held holds →
    WritesPartOf words status unread left held holds
named_as words names customers items status unread left held holds e f g w =
    inl (subst (λ o. WritesPartIf o words.until status unread left held holds)
    (same_names words (Some names) customers items e f g) w)

pub unnamed_as : (words : PartWords) (customers items : List (Bor (List ℕ))) (status : ℕ)
    (unread held : Option (List ℕ))
    → ◌≡◌ {A = Option Named} None (names_of (texts_of customers) (texts_of items)) →
    customers ≡ words.customers.items → items ≡ words.items.items → status ≡ 2 →
    WritesPartOf words status unread unread held held
unnamed_as words customers items status unread held e f g refused =
    inl (subst (λ o. WritesPartIf o words.until status unread unread held held)
    (same_names words None customers items e f g) (refused, refl, refl))
