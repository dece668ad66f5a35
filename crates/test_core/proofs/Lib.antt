mod OneWord
