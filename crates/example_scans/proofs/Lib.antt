mod Suiting
